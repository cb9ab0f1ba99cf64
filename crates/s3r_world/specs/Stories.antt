-- The laws of the lists of events.
use Rattle.std.specs.Prelude.{◌≡◌, ℕ, ◌+◌, ◌≤◌, ◌==◌, nat_le, cond, true, false, List, [], ◌∷◌, ◌++◌, length, take, drop, refl}
use Rattle.std.proofs.Common.{inl, inr, ⊎_elim, sym, ◌∙◌, ap, subst, arith, length-append, length-drop, append_assoc}
use Rattle.std.proofs.lemmas.Bool.{ne_eqb, le-leb, leb-true, cases_Bool}
use Rattle.std.proofs.lemmas.List.{take_at, drop_at, length-take-le}
use Rattle.s3r_world.specs.declared.disk.Event.{Event}
use Rattle.s3r_world.specs.declared.disk.Event.TheVariants.{Placed, Wrote, Synced, Put}
use Rattle.s3r_world.specs.Image.{Image, Torn, OnVolume}
use Rattle.s3r_world.specs.Outside.{Elapses}
use Rattle.s3r_world.specs.Events.{written, with_volume, reads_of, images_of, since_of, outside_after}

pub torn_same : (at n : ℕ) (old : List ℕ) → Torn at n old old
torn_same at n old = record { before = refl; after = refl; no_shorter = omega arith; no_longer = omega arith }

pub torn_put : (at : ℕ) (bytes old : List ℕ) → at ≤ length old → Torn at (length bytes) old (take at old ++ bytes ++ drop (at + length bytes) old)
torn_put at bytes old le =
    let front : length (take at old) ≡ at = length-take-le at old le in
    let both : length (take at old ++ bytes) ≡ at + length bytes = omega (arith, length-append (take at old) bytes, front) in
    let all : length (take at old ++ bytes ++ drop (at + length bytes) old) ≡ at + length bytes + length (drop (at + length bytes) old) =
    omega (arith, length-append (take at old ++ bytes) (drop (at + length bytes) old), both) in
    record {
      before = ap (take at) (append_assoc (take at old) bytes (drop (at + length bytes) old))
          ∙ take_at (take at old) (bytes ++ drop (at + length bytes) old) at front;
      after = drop_at (take at old ++ bytes) (drop (at + length bytes) old) (at + length bytes) both;
      no_shorter = omega (arith, all, length-drop (at + length bytes) old);
      no_longer = omega (arith, all, length-drop (at + length bytes) old);
    }

pub written_is : (at : ℕ) (bytes old : List ℕ) → at ≤ length old → written at bytes old ≡ take at old ++ bytes ++ drop (at + length bytes) old
written_is at bytes old le = ap (λ b. cond b (take at old ++ bytes ++ drop (at + length bytes) old) old) (le-leb at (length old) le)

pub torn_written : (at : ℕ) (bytes old : List ℕ) → Torn at (length bytes) old (written at bytes old)
torn_written at bytes old = elim (cases_Bool (nat_le at (length old))) [
  | inl within ↦ let le = leb-true at (length old) within in subst (Torn at (length bytes) old) (sym (written_is at bytes old le)) (torn_put at bytes old le)
  | inr beyond ↦ subst (Torn at (length bytes) old) (sym (ap (λ b. cond b (take at old ++ bytes ++ drop (at + length bytes) old) old) beyond))
      (torn_same at (length bytes) old)
]

pub same_volume : (v : ℕ) → (v == v) ≡ true
same_volume v = grind arith

-- a volume is replaced
pub replaced : (i : Image) (v : ℕ) (bytes : List ℕ) (R : List ℕ → List ℕ → Type 0) → R (i.volume v) bytes → OnVolume v R i (with_volume i v bytes)
replaced i v bytes R r = record {
  here = subst (R (i.volume v)) (sym (ap (λ b. cond b bytes (i.volume v)) (same_volume v))) r;
  elsewhere = λ u ne. ap (λ b. cond b bytes (i.volume u)) (ne_eqb u v ne);
  output = refl;
}

pub kept : (i : Image) (v : ℕ) (R : List ℕ → List ℕ → Type 0) → R (i.volume v) (i.volume v) → OnVolume v R i i
kept i v R r = record { here = r; elsewhere = λ u ne. refl; output = refl }

-- what reads give is one of the images
pub one_image : (story : List Event) → images_of story (reads_of story)
one_image [] = refl
one_image (Placed v bytes ∷ past) = (reads_of past, one_image past, replaced (reads_of past) v bytes.items (λ _ new. new ≡ bytes.items) refl)
one_image (Wrote v at bytes true ∷ past) = (
  reads_of past,
  one_image past,
  replaced (reads_of past) v (written at bytes.items ((reads_of past).volume v)) (Torn at (length bytes.items))
      (torn_written at bytes.items ((reads_of past).volume v)),
)
one_image (Wrote v at bytes false ∷ past) = (
  reads_of past,
  one_image past,
  kept (reads_of past) v (Torn at (length bytes.items)) (torn_same at (length bytes.items) ((reads_of past).volume v)),
)
one_image (Synced v ∷ past) = (one_image past, refl)
one_image (Put bytes ∷ past) = (reads_of past, one_image past, record { volumes = λ u. refl; output = refl })

-- each image has the output so far
pub output_kept : (story : List Event) (c : Image) → images_of story c → c.output ≡ (reads_of story).output
output_kept [] c is = ap (λ (i : Image). i.output) is
output_kept (Placed v bytes ∷ past) c (d, was, on) = on.output ∙ output_kept past d was
output_kept (Wrote v at bytes true ∷ past) c (d, was, on) = on.output ∙ output_kept past d was
output_kept (Wrote v at bytes false ∷ past) c (d, was, on) = on.output ∙ output_kept past d was
output_kept (Synced v ∷ past) c (was, here) = output_kept past c was
output_kept (Put bytes ∷ past) c (d, was, puts) = puts.output ∙ ap (λ (o : List ℕ). o ++ bytes.items) (output_kept past d was)

pub counts_now : (story : List Event) (t : ℕ) (c : Image) → images_of story c → since_of story t c
counts_now [] t c now = now
counts_now (e ∷ past) t c now = inl now

pub only_now : (story : List Event) (c : Image) → since_of story (length story) c → images_of story c
only_now [] c left = left
only_now (e ∷ past) c (inl now) = now
only_now (e ∷ past) c (inr (le, was)) = absurd (omega (arith, le))

-- one event more
pub elapses_one : (e : Event) (past : List Event) (i j : List ℕ) (cs ds : List (List ℕ))
    → Elapses (outside_after past i cs) (outside_after (e ∷ past) j ds) (images_of (e ∷ past))
elapses_one e past i j cs ds = record {
  later = omega arith;
  each = λ t c le left. ⊎_elim (λ now. inr now) (λ was. inl was.1) left;
  keeps = λ t c le left. inr (le, left);
}
