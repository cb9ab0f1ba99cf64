-- A header gate that is closed, and the header behind it that is written before the gate is opened.
use Rattle.std.proofs.Common.{◌≡◌, ℕ, ◌<◌, Bool, true, false, List, [], ◌∷◌, ◌++◌, length, take, drop, get_or, refl, inl, inr, sym, ◌∙◌, ap, subst, arith}
use Rattle.std.proofs.lemmas.Bool.{cases_eq}
use Rattle.std.proofs.lemmas.List.{drop_more}
use Rattle.s3r_world.specs.Image.{Image, Holds, Torn, OnVolume, Reached}
use Rattle.s3r_world.specs.Outside.{Outside}
use Rattle.s3r_world.specs.Moments.{elapses_then, elapses_weaker, keeps_then, on_then, on_weaker}
use Rattle.s3r_journal.specs.Volume.{StandsTo, IsEmptyVolume}
use Rattle.s3r_journal.specs.Step.{WritesThrough, IsReady, Changed}
use Rattle.s3r_journal.specs.Create.{Creates, MayCreate, Created}
use Rattle.s3r_journal.specs.Header.{header_frame, IsShut, Shuts, Opens, MayOpen}
use Rattle.s3r_journal.proofs.Bytes.{held_behind, torn_gate, held_gate}
use Rattle.s3r_journal.proofs.Gated.{changes_not, changes}

same_first : (a b : List ℕ) → take 1 b ≡ take 1 a → get_or b 0 0 ≡ get_or a 0 0
same_first [] [] is = refl
same_first [] (y ∷ b) is = cc
same_first (x ∷ a) [] is = cc
same_first (x ∷ a) (y ∷ b) is = cc

-- the header, its gate open, and a closed gate
stands_new : (region : ℕ) (tail b : List ℕ) → b ≡ 1 ∷ (header_frame region ++ tail) → StandsTo region 1 [] 16 b
stands_new region tail b is = record { gate = 0; rest = tail; closed = omega arith; whole = is; place = refl; short = tt }

module _ (region : ℕ) where
  header_staged : (a b : List ℕ) → Torn 1 16 a b → MayOpen region a b
  header_staged a b torn shut = inl (inr (λ is. shut.closed (sym (same_first a b torn.before) ∙ is)))

  -- the first byte, and the rest
  parts : (a : List ℕ) → 0 < length a → a ≡ get_or a 0 0 ∷ drop 1 a
  parts a long = drop_more a 0 0 long

  header_may : (a m b : List ℕ) → Holds 1 (header_frame region) a m → Torn 0 1 m b → MayOpen region a b
  header_may a m b holds torn shut =
      let tail = drop 17 a in
      let staged : m ≡ [] ++ get_or a 0 0 ∷ (header_frame region ++ tail) =
      held_behind [] (get_or a 0 0) (drop 1 a) 0 refl (header_frame region) a m (parts a shut.long) holds in
      let is : b ≡ [] ++ get_or b 0 0 ∷ (header_frame region ++ tail) = torn_gate [] (get_or a 0 0) (header_frame region ++ tail) 0 refl m b staged torn in
      elim (cases_eq (get_or b 0 0) 1) [
        | inl open_gate ↦ inr (stands_new region tail b (is ∙ ap (λ (g : ℕ). g ∷ (header_frame region ++ tail)) open_gate))
        | inr closed ↦ inl (inr closed)
      ]

  header_opens : (a m b : List ℕ) → Holds 1 (header_frame region) a m → Holds 0 (1 ∷ []) m b → Opens region a b
  header_opens a m b holds gate shut =
      let tail = drop 17 a in
      let staged : m ≡ [] ++ get_or a 0 0 ∷ (header_frame region ++ tail) =
      held_behind [] (get_or a 0 0) (drop 1 a) 0 refl (header_frame region) a m (parts a shut.long) holds in
      stands_new region tail b (held_gate [] (get_or a 0 0) (header_frame region ++ tail) 0 refl m b staged gate)

  module _ (v : ℕ) (old mid : Outside) where
    pub open_not : WritesThrough v 1 (header_frame region) false old mid → Changed v 16 (MayOpen region) (Opens region) false old mid
    open_not w = changes_not v 0 16 (header_frame region) (MayOpen region) (Opens region) old mid header_staged w

    pub open_both : (new : Outside) (ok : Bool) → IsReady v 0 old → WritesThrough v 1 (header_frame region) true old mid
        → WritesThrough v 0 (1 ∷ []) ok mid new → Changed v 16 (MayOpen region) (Opens region) ok old new
    open_both new ok ready first second = changes v 0 16 (header_frame region) (MayOpen region) (Opens region) old mid header_staged header_may header_opens
        (omega arith) new ok ready first second

    still_empty : (d c : Image) → OnVolume v (λ a b. IsEmptyVolume a → IsEmptyVolume b) d c → OnVolume v (MayCreate region) d c
    still_empty d c on = on_weaker v _ (MayCreate region) d c (λ keeps empty. inl (keeps empty)) on

    pub create_not : Shuts v false old mid → Created v region false old mid
    create_not s = record {
      time = elapses_weaker old mid _ _ s.time (λ c (d, was, on). (d, was, still_empty d c on));
      images = λ c now. let from = s.images c now in (from.0, from.1, still_empty from.0 c from.2);
      as_read = still_empty old.as_read mid.as_read s.as_read;
      done = λ t. cc;
      read = λ t. cc;
      ready = λ t. cc;
      input = s.input;
    }

    module _ (new : Outside) (ok : Bool) (first : Shuts v true old mid) (second : Changed v 16 (MayOpen region) (Opens region) ok mid new) where
      shut_image : (m : Image) → mid.images m → IsShut (m.volume v)
      shut_image m now = subst IsShut (sym (first.stable refl m now)) (first.shut refl)

      may_follow : (d m c : Image) → IsShut (m.volume v) → OnVolume v (λ a b. IsEmptyVolume a → IsEmptyVolume b) d m → OnVolume v (MayOpen region) m c
          → OnVolume v (MayCreate region) d c
      may_follow d m c shut one two = on_then v _ _ (MayCreate region) d m c (λ keeps may empty. may shut) one two

      does_follow : (d m c : Image) → IsShut (m.volume v) → OnVolume v (λ a b. IsEmptyVolume a → IsEmptyVolume b) d m → OnVolume v (Opens region) m c
          → OnVolume v (Creates region) d c
      does_follow d m c shut one two = on_then v _ _ (Creates region) d m c (λ keeps does empty. does shut) one two

      going_on : (c : Image) → Reached (OnVolume v (MayOpen region)) mid.images c → Reached (OnVolume v (MayCreate region)) old.images c
      going_on c (m, now, on) = let from = first.images m now in (from.0, from.1, may_follow from.0 m c (shut_image m now) from.2 on)

      pub create_both : Created v region ok old new
      create_both = record {
        time = elapses_then old mid new _ (elapses_weaker old mid _ _ first.time (λ c (d, was, on). (d, was, still_empty d c on)))
            (elapses_weaker mid new _ _ second.time going_on);
        images = λ c now. going_on c (second.images c now);
        as_read = may_follow old.as_read mid.as_read new.as_read (first.shut refl) first.as_read second.as_read;
        done = λ t c now. let here = second.done t c now in let from = first.images here.0 here.1 in
            (from.0, from.1, does_follow from.0 here.0 c (shut_image here.0 here.1) from.2 here.2);
        read = λ t. does_follow old.as_read mid.as_read new.as_read (first.shut refl) first.as_read (second.read t);
        ready = second.ready;
        input = keeps_then old mid new first.input second.input;
      }
