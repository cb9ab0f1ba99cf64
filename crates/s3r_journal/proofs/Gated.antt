-- A change as two writes, each with its sync: one behind a closed gate, and one of the gate.
use Rattle.std.proofs.Common.{◌≡◌, ℕ, ◌+◌, ◌≤◌, Bool, true, false, IsTrue, List, [], ◌∷◌, length, refl, inl, sym, ap, subst, arith, length-append}
use Rattle.s3r_world.specs.Image.{Image, Holds, Torn, OnVolume, Reached, Follows}
use Rattle.s3r_world.specs.Outside.{Outside}
use Rattle.s3r_world.specs.Moments.{elapses_none, elapses_then, elapses_weaker, keeps_then, on_then, on_weaker}
use Rattle.s3r_journal.specs.Volume.{frame_of}
use Rattle.s3r_journal.specs.Step.{WritesThrough, IsReady, Changed}
use Rattle.s3r_journal.specs.Append.{Appends, MayAppend, Appended}
use Rattle.s3r_journal.proofs.Bytes.{held_long, keeps_behind, may_open, opens}

module _ (v end last : ℕ) (frame : List ℕ) (May Does : List ℕ → List ℕ → Type 0) (old mid : Outside) where
  module _ (staged : (a b : List ℕ) → Torn (end + 1) (length frame) a b → May a b) where
    from_stage : (ok : Bool) → WritesThrough v (end + 1) frame ok old mid → (c : Image) → Reached (OnVolume v (Torn (end + 1) (length frame))) old.images c
        → Reached (OnVolume v May) old.images c
    from_stage ok w c (d, was, on) = (d, was, on_weaker v _ _ d c (staged (d.volume v) (c.volume v)) on)

    -- the write behind the gate failed
    pub changes_not : WritesThrough v (end + 1) frame false old mid → Changed v last May Does false old mid
    changes_not w = record {
      time = elapses_weaker old mid _ _ w.time (from_stage false w);
      images = λ c now. from_stage false w c (w.images c now);
      as_read = on_weaker v _ _ old.as_read mid.as_read (staged (old.as_read.volume v) (mid.as_read.volume v)) w.as_read;
      done = λ t. cc;
      read = λ t. cc;
      ready = λ t. cc;
      input = w.input;
    }

    module _ (may : (a m b : List ℕ) → Holds (end + 1) frame a m → Torn end 1 m b → May a b) (does : (a m b : List ℕ) → Holds (end + 1) frame a m
        → Holds end (1 ∷ []) m b → Does a b)
        (within : last ≤ end + length frame) (new : Outside) (ok : Bool) (ready : IsReady v end old)
        (first : WritesThrough v (end + 1) frame true old mid) (second : WritesThrough v end (1 ∷ []) ok mid new) where
      -- what an image between the two holds, and what it came from
      between : (d m : Image) → old.images d → mid.images m → Holds (end + 1) frame (d.volume v) (m.volume v)
      between d m was now =
          let from : d.volume v ≡ old.as_read.volume v = ready.stable d was in
          let to : m.volume v ≡ mid.as_read.volume v = first.stable refl m now in
          subst (λ (x : List ℕ). Holds (end + 1) frame x (m.volume v)) (sym from)
          (subst (λ (y : List ℕ). Holds (end + 1) frame (old.as_read.volume v) y) (sym to) (first.written refl).here)

      opening : (c : Image) → Reached (OnVolume v (Torn end 1)) mid.images c → Reached (OnVolume v May) old.images c
      opening c (m, now, on) =
          let from = first.images m now in
          (from.0, from.1, on_then v _ _ _ from.0 m c (λ t g. may (from.0.volume v) (m.volume v) (c.volume v) (between from.0 m from.1 now) g) from.2 on)

      opened : IsTrue ok → Follows (OnVolume v Does) old.images new.images
      opened yes_ok c now =
          let here = second.images c now in
          let from = first.images here.0 here.1 in
          let gate : Holds end (1 ∷ []) (here.0.volume v) (c.volume v) =
          subst (λ (x : List ℕ). Holds end (1 ∷ []) x (c.volume v)) (sym (first.stable refl here.0 here.1))
          (subst (λ (y : List ℕ). Holds end (1 ∷ []) (mid.as_read.volume v) y) (sym (second.stable yes_ok c now)) (second.written yes_ok).here) in (
            from.0,
            from.1,
            on_then v _ _ _ from.0 here.0 c (λ t g. does (from.0.volume v) (here.0.volume v) (c.volume v)
                (between from.0 here.0 from.1 here.1) gate) from.2 here.2,
          )

      -- the write behind the gate was done, and then the gate written
      pub changes : Changed v last May Does ok old new
      changes = record {
        time = elapses_then old mid new _ (elapses_weaker old mid _ _ first.time (from_stage true first)) (elapses_weaker mid new _ _ second.time opening);
        images = λ c now. opening c (second.images c now);
        as_read = on_then v _ _ _ old.as_read mid.as_read new.as_read (λ h g. may (old.as_read.volume v) (mid.as_read.volume v) (new.as_read.volume v) h g)
            (first.written refl) second.as_read;
        done = opened;
        read = λ t. on_then v _ _ _ old.as_read mid.as_read new.as_read (λ h g. does (old.as_read.volume v) (mid.as_read.volume v) (new.as_read.volume v) h g)
            (first.written refl) (second.written t);
        ready = λ t. record {
          stable = second.stable t;
          long =
              let held : end + 1 + length frame ≤ length (mid.as_read.volume v) =
              held_long (end + 1) frame (old.as_read.volume v) (mid.as_read.volume v) (first.written refl).here (omega (arith, ready.long)) in
              omega (arith, held, second.as_read.here.no_shorter, within);
        };
        input = keeps_then old mid new first.input second.input;
      }

-- no call was made
pub changes_nothing : (v last : ℕ) (May Does : List ℕ → List ℕ → Type 0) (w : Outside) → ((a : List ℕ) → May a a) → Changed v last May Does false w w
changes_nothing v last May Does w same =
    let on : (i : Image) → OnVolume v May i i = λ i. record { here = same (i.volume v); elsewhere = λ u ne. refl; output = refl } in
    record {
      time = elapses_none w _;
      images = λ c now. (c, now, on c);
      as_read = on w.as_read;
      done = λ t. cc;
      read = λ t. cc;
      ready = λ t. cc;
      input = record { input = refl; connections = refl };
    }

module _ (v end : ℕ) (s frame : List ℕ) (is : frame ≡ frame_of s) (old mid : Outside) where
  frame_long : length frame ≡ length s + 5
  frame_long = omega (arith, ap length is, length-append s (0 ∷ []))

  as_frame : (ok : Bool) → WritesThrough v (end + 1) frame ok old mid → WritesThrough v (end + 1) (frame_of s) ok old mid
  as_frame ok w = subst (λ (f : List ℕ). WritesThrough v (end + 1) f ok old mid) is w

  pub appends_not : WritesThrough v (end + 1) frame false old mid → Appended v end s false old mid
  appends_not w = changes_not v end (end + length s + 5) (frame_of s) (MayAppend end s) (Appends end s) old mid (keeps_behind end (length (frame_of s)) s)
      (as_frame false w)

  pub appends : (new : Outside) (ok : Bool) → length s ≤ 16777216 → IsReady v end old → WritesThrough v (end + 1) frame true old mid
      → WritesThrough v end (1 ∷ []) ok mid new → Appended v end s ok old new
  appends new ok le ready first second =
      changes v end (end + length s + 5) (frame_of s) (MayAppend end s) (Appends end s) old mid (keeps_behind end (length (frame_of s)) s) (may_open end s le)
      (opens end s le)
      (omega (arith, frame_long, ap length is)) new ok ready (as_frame true first) second

pub appends_nothing : (v end : ℕ) (s : List ℕ) (w : Outside) → Appended v end s false w w
appends_nothing v end s w = changes_nothing v (end + length s + 5) (MayAppend end s) (Appends end s) w (λ a region format h stands. inl stands)
