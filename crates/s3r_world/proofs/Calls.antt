-- What each call does to a world in memory.
use Rattle.std.proofs.Common.{◌≡◌, ℕ, ◌≤◌, ◌↔◌, List, [], ◌∷◌, ◌++◌, length, take, drop, Vec, true, false, Result, Ok, Err, OnOk, OnErr, refl, inl, inr, sym, subst, ap, arith}
use Rattle.std.proofs.lemmas.List.{take_all, append-nil}
use Rattle.std.specs.declared.alloc.Global.{Global}
use Rattle.s3r_world.specs.declared.disk.Event.{Event}
use Rattle.s3r_world.specs.declared.disk.Event.TheVariants.{Wrote, Put}
use Rattle.s3r_world.specs.declared.world.OutputFault.{OutputFault}
use Rattle.s3r_world.specs.Image.{Holds, Torn, Puts}
use Rattle.s3r_world.specs.Outside.{Writes, Syncs, Emits, Takes}
use Rattle.s3r_world.specs.Events.{written, reads_of, outside_after}
use Rattle.s3r_world.specs.Moments.{elapses_none}
use Rattle.s3r_world.specs.Stories.{torn_same, torn_written, written_is, replaced, kept, elapses_one}

-- the front of the input has been taken
pub takes : (s : List Event) (input rest buffer after : List ℕ) (cs ds : List (List ℕ)) (k : ℕ) → k ≤ length input → after ≡ take k input ++ drop k buffer
    → rest ≡ drop k input → ((k ≡ 0) ↔ (input ≡ [])) → ds ≡ cs → Takes buffer after (Ok k) (outside_after s input cs) (outside_after s rest ds)
takes s input rest buffer after cs ds k le bytes is over same = record {
  bytes = bytes;
  ok = is;
  within = le;
  over = over;
  err = tt;
  connections = same;
  volumes = record {
    as_read = refl;
    images = λ c now. now;
    time = record { later = omega arith; each = λ t c le left. inl left; keeps = λ t c le left. left };
  };
}

module _ (past story : List Event) (i : List ℕ) (cs : List (List ℕ)) where
  pub writes_done : (v at : ℕ) (b : Vec ℕ Global) (bytes : List ℕ) → story ≡ Wrote v at b true ∷ past → b.items ≡ bytes
      → at ≤ length ((reads_of past).volume v) → Writes v at bytes true (outside_after past i cs) (outside_after story i cs)
  writes_done v at b bytes is same le =
      let old : List ℕ = (reads_of past).volume v in
      let done : Writes v at b.items true (outside_after past i cs) (outside_after (Wrote v at b true ∷ past) i cs) = record {
        written = λ ok. replaced (reads_of past) v (written at b.items old) (Holds at b.items) (written_is at b.items old le);
        as_read = replaced (reads_of past) v (written at b.items old) (Torn at (length b.items)) (torn_written at b.items old);
        images = λ c now. now;
        time = elapses_one (Wrote v at b true) past i i cs cs;
        input = record { input = refl; connections = refl };
      } in
      subst (λ (s : List Event). Writes v at bytes true (outside_after past i cs) (outside_after s i cs)) (sym is)
      (subst (λ (bs : List ℕ). Writes v at bs true (outside_after past i cs) (outside_after (Wrote v at b true ∷ past) i cs)) same done)

  -- a write failed, and was recorded
  writes_failed : (v at : ℕ) (b : Vec ℕ Global) (bytes : List ℕ) → story ≡ Wrote v at b false ∷ past → b.items ≡ bytes
      → Writes v at bytes false (outside_after past i cs) (outside_after story i cs)
  writes_failed v at b bytes is same =
      let done : Writes v at b.items false (outside_after past i cs) (outside_after (Wrote v at b false ∷ past) i cs) = record {
        written = λ ok. cc;
        as_read = kept (reads_of past) v (Torn at (length b.items)) (torn_same at (length b.items) ((reads_of past).volume v));
        images = λ c now. now;
        time = elapses_one (Wrote v at b false) past i i cs cs;
        input = record { input = refl; connections = refl };
      } in
      subst (λ (s : List Event). Writes v at bytes false (outside_after past i cs) (outside_after s i cs)) (sym is)
      (subst (λ (bs : List ℕ). Writes v at bs false (outside_after past i cs) (outside_after (Wrote v at b false ∷ past) i cs)) same done)

  -- a write failed, and nothing has happened
  pub writes_none : (v at : ℕ) (bytes : List ℕ) → story ≡ past → Writes v at bytes false (outside_after past i cs) (outside_after story i cs)
  writes_none v at bytes is =
      let none : Writes v at bytes false (outside_after past i cs) (outside_after past i cs) = record {
        written = λ ok. cc;
        as_read = kept (reads_of past) v (Torn at (length bytes)) (torn_same at (length bytes) ((reads_of past).volume v));
        images = λ c now. (c, now, kept c v (Torn at (length bytes)) (torn_same at (length bytes) (c.volume v)));
        time = elapses_none (outside_after past i cs) _;
        input = record { input = refl; connections = refl };
      } in
      subst (λ (s : List Event). Writes v at bytes false (outside_after past i cs) (outside_after s i cs)) (sym is) none

  -- a write failed, and was recorded where there was memory
  pub writes_planned : {T E : Type 0} (recorded : Result T E) (v at : ℕ) (bytes : List ℕ)
      → OnOk recorded ((b : Vec ℕ Global) × (b.items ≡ bytes) × (story ≡ Wrote v at b false ∷ past)) → OnErr recorded (story ≡ past)
      → Writes v at bytes false (outside_after past i cs) (outside_after story i cs)
  writes_planned (Ok x) v at bytes ok err = writes_failed v at ok.0 bytes ok.2 ok.1
  writes_planned (Err e) v at bytes ok err = writes_none v at bytes err

  pub syncs_none : (v : ℕ) → story ≡ past → Syncs v false (outside_after past i cs) (outside_after story i cs)
  syncs_none v is =
      let none : Syncs v false (outside_after past i cs) (outside_after past i cs) = record {
        looks = record {
          as_read = refl;
          images = λ c now. now;
          time = elapses_none (outside_after past i cs) _;
          input =
              record { input = refl; connections = refl };
        };
        stable = λ ok. cc;
      } in
      subst (λ (s : List Event). Syncs v false (outside_after past i cs) (outside_after s i cs)) (sym is) none

  pub emits_none : (bytes : List ℕ) (e : OutputFault) → story ≡ past → Emits bytes (Err e) (outside_after past i cs) (outside_after story i cs)
  emits_none bytes e is =
      let none : Emits bytes (Err e) (outside_after past i cs) (outside_after past i cs) = record {
        count = 0;
        ok = tt;
        within = omega arith;
        as_read = record { volumes = λ u. refl; output = sym (append-nil (reads_of past).output) };
        images = λ c now. (c, now, record { volumes = λ u. refl; output = sym (append-nil c.output) });
        time = elapses_none (outside_after past i cs) _;
        input = record { input = refl; connections = refl };
      } in
      subst (λ (s : List Event). Emits bytes (Err e) (outside_after past i cs) (outside_after s i cs)) (sym is) none

  pub emits_done : (b : Vec ℕ Global) (bytes : List ℕ) → story ≡ Put b ∷ past → b.items ≡ bytes
      → Emits bytes (Ok (length bytes)) (outside_after past i cs) (outside_after story i cs)
  emits_done b bytes is same =
      let all : take (length b.items) b.items ≡ b.items = take_all (length b.items) b.items (omega arith) in
      let done : Emits b.items (Ok (length b.items)) (outside_after past i cs) (outside_after (Put b ∷ past) i cs) = record {
        count = length b.items;
        ok = refl;
        within = omega arith;
        as_read = record { volumes = λ u. refl; output = ap (λ (l : List ℕ). (reads_of past).output ++ l) (sym all) };
        images = λ c now. (now.0, now.1, subst (λ (l : List ℕ). Puts l now.0 c) (sym all) now.2);
        time = record {
          later = omega arith;
          each = (λ t c le left. elim left [
            | inl now ↦ inr (
              length b.items,
              omega arith,
              (now.0, now.1, subst (λ (l : List ℕ). Puts l now.0 c) (sym all) now.2),
            )
            | inr was ↦ inl was.1
          ]);
          keeps = λ t c le left. inr (le, left);
        };
        input = record { input = refl; connections = refl };
      } in
      subst (λ (s : List Event). Emits bytes (Ok (length bytes)) (outside_after past i cs) (outside_after s i cs)) (sym is)
      (subst (λ (bs : List ℕ). Emits bs (Ok (length bs)) (outside_after past i cs) (outside_after (Put b ∷ past) i cs)) same done)
