-- A change of a volume behind another.
use Rattle.std.proofs.Common.{◌≡◌, ℕ, ◌+◌, Bool, true, false, IsNone, IsSome, List, [], length, Option, Some, None, unwrap_or, refl, inl, inr, ⊎_elim, subst}
use Rattle.s3r_world.specs.Image.{Image, OnVolume, Reached}
use Rattle.s3r_world.specs.Outside.{Outside}
use Rattle.s3r_world.specs.Moments.{elapses_none, elapses_then, elapses_weaker, keeps_then, on_then, on_weaker}
use Rattle.s3r_journal.specs.Step.{Changed}
use Rattle.s3r_journal.specs.Append.{Appended, MayAppend, Appends}
use Rattle.s3r_journal.specs.Create.{Created, MayCreate, Creates}
use Rattle.s3r_store.specs.Writes.{Begins, MayBegin, Written}

abbrev Step : Type 1
Step = List ℕ → List ℕ → Type 0

module _ (v e f : ℕ) (May₁ Does₁ May₂ Does₂ May Does : List ℕ → List ℕ → Type 0) (a b d : Outside) (ok : Bool)
    (early : (x y : List ℕ) → May₁ x y → May x y) (late : (x y z : List ℕ) → Does₁ x y → May₂ y z → May x z) (both : (x y z : List ℕ) → Does₁ x y → Does₂ y z
    → Does x z)
    (first : Changed v e May₁ Does₁ true a b) (second : Changed v f May₂ Does₂ ok b d) where
  from_second : (c : Image) → Reached (OnVolume v May₂) b.images c → Reached (OnVolume v May) a.images c
  from_second c (m, now, on) = let from = first.done refl m now in (
    from.0,
    from.1,
    on_then v Does₁ May₂ May from.0 m c (late (from.0.volume v) (m.volume v) (c.volume v)) from.2 on,
  )

  pub changes_then : Changed v f May Does ok a d
  changes_then = record {
    time = elapses_then a b d (Reached (OnVolume v May) a.images)
        (elapses_weaker a b (Reached (OnVolume v May₁) a.images) (Reached (OnVolume v May) a.images) first.time
        (λ c (m, was, on). (m, was, on_weaker v May₁ May m c (early (m.volume v) (c.volume v)) on)))
        (elapses_weaker b d (Reached (OnVolume v May₂) b.images) (Reached (OnVolume v May) a.images) second.time from_second);
    images = λ c now. from_second c (second.images c now);
    as_read = on_then v Does₁ May₂ May a.as_read b.as_read d.as_read (late (a.as_read.volume v) (b.as_read.volume v) (d.as_read.volume v))
        (first.read refl) second.as_read;
    done = λ t c now. let here = second.done t c now in let from = first.done refl here.0 here.1 in
        (from.0, from.1, on_then v Does₁ Does₂ Does from.0 here.0 c (both (from.0.volume v) (here.0.volume v) (c.volume v)) from.2 here.2);
    read = λ t. on_then v Does₁ Does₂ Does a.as_read b.as_read d.as_read (both (a.as_read.volume v) (b.as_read.volume v) (d.as_read.volume v))
        (first.read refl) (second.read t);
    ready = second.ready;
    input = keeps_then a b d first.input second.input;
  }

-- a change that failed may have done less
pub failed_weaker : (v e f : ℕ) (May₁ Does₁ May Does : List ℕ → List ℕ → Type 0) (a b : Outside) → ((x y : List ℕ) → May₁ x y → May x y)
    → Changed v e May₁ Does₁ false a b → Changed v f May Does false a b
failed_weaker v e f May₁ Does₁ May Does a b early did = record {
  time = elapses_weaker a b (Reached (OnVolume v May₁) a.images) (Reached (OnVolume v May) a.images) did.time
      (λ c (m, was, on). (m, was, on_weaker v May₁ May m c (early (m.volume v) (c.volume v)) on));
  images = λ c now. let from = did.images c now in (from.0, from.1, on_weaker v May₁ May from.0 c (early (from.0.volume v) (c.volume v)) from.2);
  as_read = on_weaker v May₁ May a.as_read b.as_read (early (a.as_read.volume v) (b.as_read.volume v)) did.as_read;
  done = λ t. cc;
  read = λ t. cc;
  ready = λ t. cc;
  input = did.input;
}

-- nothing was done
pub nothing_done : (v f : ℕ) (May Does : List ℕ → List ℕ → Type 0) (a : Outside) → ((x : List ℕ) → May x x) → Changed v f May Does false a a
nothing_done v f May Does a same = record {
  time = elapses_none a (Reached (OnVolume v May) a.images);
  images = λ c now. (c, now, record { here = same (c.volume v); elsewhere = λ u ne. refl; output = refl });
  as_read = record { here = same (a.as_read.volume v); elsewhere = λ u ne. refl; output = refl };
  done = λ t. cc;
  read = λ t. cc;
  ready = λ t. cc;
  input = record { input = refl; connections = refl };
}

begin_early : (v : ℕ) (s x y : List ℕ) → MayCreate v x y → MayBegin v s x y
begin_early v s x y may empty = ⊎_elim (λ still. inl still) (λ made. inr (inl made)) (may empty)

begin_late : (v : ℕ) (s x y z : List ℕ) → Creates v x y → MayAppend 16 s y z → MayBegin v s x z
begin_late v s x y z made may empty = ⊎_elim (λ still. inr (inl still)) (λ with. inr (inr with)) (may v 1 [] (made empty))

begin_both : (v : ℕ) (s x y z : List ℕ) → Creates v x y → Appends 16 s y z → Begins v s x z
begin_both v s x y z made does empty = does v 1 [] (made empty)

-- a frame wasn't written, since no header was made
pub not_written : (v : ℕ) (s : List ℕ) (a b : Outside) (end : Option ℕ) → (IsNone end → Created v v false a b)
    → (IsSome end → (P : Outside → Type 0) → P a → P b) → Written v end s false a b
not_written v s a b None made there = failed_weaker v 16 (16 + length s + 5) (MayCreate v) (Creates v) (MayBegin v s) (Begins v s) a b (begin_early v s)
    (made refl)
not_written v s a b (Some end) made there =
    there refl (λ w. Written v (Some end) s false a w)
    (nothing_done v (end + length s + 5) (MayAppend end s) (Appends end s) a (λ x region format h stands. inl stands))

-- or it was, behind the header
pub is_written : (v : ℕ) (s : List ℕ) (a b d : Outside) (ok : Bool) (end : Option ℕ) (e : ℕ) → e ≡ unwrap_or end 16 → (IsNone end → Created v v true a b)
    → (IsSome end → (P : Outside → Type 0) → P b → P a) → Appended v e s ok b d → Written v end s ok a d
is_written v s a b d ok None e is made there did =
    changes_then v 16 (16 + length s + 5) (MayCreate v) (Creates v) (MayAppend 16 s) (Appends 16 s) (MayBegin v s) (Begins v s) a b d ok (begin_early v s)
    (begin_late v s) (begin_both v s) (made refl)
    (subst (λ (n : ℕ). Appended v n s ok b d) is did)
is_written v s a b d ok (Some end) e is made there did = there refl (λ w. Appended v end s ok w d) (subst (λ (n : ℕ). Appended v n s ok b d) is did)
