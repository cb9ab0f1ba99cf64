-- Whose turn it is.
use Rattle.std.proofs.Common.{◌≡◌, ◌≤◌, ◌<◌, ◌⊎◌, ◌&&◌, ◌||◌, ◌∙◌, ℕ, zero, suc, Bool, true, false, cond, List, [], ◌∷◌, Option, Some, None, MatchOption, Contains, nat_lt, refl, sym, ap, inl, inr, arith, ltb-true, ltb-false}
use Rattle.std.specs.List.{list_any}
use Rattle.std.proofs.Math.Bool.{or-true}
use Rattle.std.proofs.lemmas.Bool.{and_parts, and_from}
use Rattle.s3r_jobs.specs.declared.state.JobState.{JobState}
use Rattle.s3r_jobs.specs.States.{is_waiting}
use Rattle.s3r_jobs.specs.Facts.{JobFacts}
use Rattle.s3r_jobs.specs.Turn.{Rank, lesser, lowest, best, better_of, is_better, rank}
use Rattle.s3r_jobs.specs.TurnLaws.{HasNone, IsLowest, LowestIsLowest, IsBest, BestIsBest, MakesWayToBetter}

none_in : {X : Type 0} (x : X) → Contains [] x → ⊥
none_in x (k, within, is) = omega arith

first_in : {X : Type 0} (x : X) (xs : List X) → Contains (x ∷ xs) x
first_in x xs = (zero, omega arith, refl)

behind_in : {X : Type 0} (x y : X) (xs : List X) → Contains xs y → Contains (x ∷ xs) y
behind_in x y xs (k, within, is) = (suc k, omega arith, is)

-- what stands there is the first or stands behind it
cases_in : {X : Type 0} (x y : X) (xs : List X) → Contains (x ∷ xs) y → (x ≡ y) ⊎ Contains xs y
cases_in x y xs (zero, within, is) = inl is
cases_in x y xs (suc k, within, is) = inr (k, omega arith, is)

any_at : {X : Type 0} (p : X → Bool) (xs : List X) (y : X) → Contains xs y → p y ≡ true → list_any p xs ≡ true
any_at p [] y inside is = absurd (none_in y inside)
any_at p (x ∷ xs) y (zero, within, same) is = ap (λ t. t || list_any p xs) (ap p same ∙ is)
any_at p (x ∷ xs) y (suc k, within, same) is = ap (λ t. p x || t) (any_at p xs y (k, omega arith, same) is) ∙ or-true (p x)

-- ---- the lowest id

module _ (test : JobState → Bool) (x : JobFacts) (xs : List JobFacts) where
  none_more : test x.state ≡ false → HasNone test xs → HasNone test (x ∷ xs)
  none_more isnt none job inside =
      elim (cases_in x job xs inside) [ inl is ↦ ap (λ (j : JobFacts). test j.state) (sym is) ∙ isnt | inr there ↦ none job there ]

  -- one that isn't in such a state changes nothing
  passed_over : (id : ℕ) → test x.state ≡ false → IsLowest test xs id → IsLowest test (x ∷ xs) id
  passed_over id isnt low = record {
    there = (low.there.0, behind_in x low.there.0 xs low.there.1, low.there.2, low.there.3);
    lowest = λ job inside due. elim (cases_in x job xs inside) [
      | inl is ↦ absurd (differ (sym due ∙ ap (λ (j : JobFacts). test j.state) (sym is) ∙ isnt))
      | inr there ↦ low.lowest job there due
    ];
  }
    where
      differ : true ≡ false → ⊥
      differ e = cc

  -- where no other is in such a state, it is the first
  only : test x.state ≡ true → HasNone test xs → IsLowest test (x ∷ xs) x.id
  only is none = record {
    there = (x, first_in x xs, is, refl);
    lowest = λ job inside due. elim (cases_in x job xs inside) [
      | inl same ↦ below job same
      | inr there ↦ absurd (differ (sym due ∙ none job there))
    ];
  }
    where
      differ : true ≡ false → ⊥
      differ e = cc

      below : (job : JobFacts) → x ≡ job → x.id ≤ job.id
      below job same = let e : x.id ≡ job.id = ap (λ (j : JobFacts). j.id) same in omega (arith, e)

  -- the first, or one behind it that is lower
  lower_of : (id : ℕ) (t : Bool) → nat_lt id x.id ≡ t → test x.state ≡ true → IsLowest test xs id → IsLowest test (x ∷ xs) (cond t id x.id)
  lower_of id true less is low =
      let lt : id < x.id = ltb-true id x.id less in
      record {
        there = (low.there.0, behind_in x low.there.0 xs low.there.1, low.there.2, low.there.3);
        lowest = λ job inside due. elim (cases_in x job xs inside) [
          | inl same ↦ (let e : x.id ≡ job.id = ap (λ (j : JobFacts). j.id) same in omega (arith, e, lt))
          | inr there ↦ low.lowest job there due
        ];
      }
  lower_of id false more is low =
      let le : x.id ≤ id = ltb-false id x.id more in
      record {
        there = (x, first_in x xs, is, refl);
        lowest = λ job inside due. elim (cases_in x job xs inside) [
          | inl same ↦ (let e : x.id ≡ job.id = ap (λ (j : JobFacts). j.id) same in omega (arith, e))
          | inr there ↦ omega (arith, le, low.lowest job there due)
        ];
      }

pub lowest_is_lowest : LowestIsLowest
lowest_is_lowest test [] = λ job inside. absurd (none_in job inside)
lowest_is_lowest test (x ∷ xs) = go (test x.state) refl (lowest test xs) (lowest_is_lowest test xs)
  where
    go : (t : Bool) → test x.state ≡ t → (low : Option ℕ) → MatchOption low (HasNone test xs) (IsLowest test xs)
        → MatchOption (cond t (lesser x.id low) low) (HasNone test (x ∷ xs)) (IsLowest test (x ∷ xs))
    go true is None none = only test x xs is none
    go true is (Some id) low = lower_of test x xs id (nat_lt id x.id) refl is low
    go false isnt None none = none_more test x xs isnt none
    go false isnt (Some id) low = passed_over test x xs id isnt low

-- ---- the order of jobs that wait

not_itself : (a : Rank) → is_better a a ≡ false
not_itself a = grind arith

one_way : (a b : Rank) → is_better a b ≡ true → is_better b a ≡ false
one_way a b e = grind arith

-- what isn't better than the second isn't better than a third that the second isn't worse than
never_better : (a b c : Rank) → is_better a b ≡ false → is_better b c ≡ false → is_better a c ≡ false
never_better a b c e f = grind arith

-- ---- the best job that waits

module _ (x : JobFacts) (xs : List JobFacts) where
  best_passed_over : (top : Rank) → is_waiting x.state ≡ false → IsBest xs top → IsBest (x ∷ xs) top
  best_passed_over top isnt high = record {
    there = (high.there.0, behind_in x high.there.0 xs high.there.1, high.there.2, high.there.3);
    best = λ job inside due. elim (cases_in x job xs inside) [
      | inl is ↦ absurd (differ (sym due ∙ ap (λ (j : JobFacts). is_waiting j.state) (sym is) ∙ isnt))
      | inr there ↦ high.best job there due
    ];
  }
    where
      differ : true ≡ false → ⊥
      differ e = cc

  best_only : is_waiting x.state ≡ true → HasNone is_waiting xs → IsBest (x ∷ xs) (rank x)
  best_only is none = record {
    there = (x, first_in x xs, is, refl);
    best = λ job inside due. elim (cases_in x job xs inside) [
      | inl same ↦ ap (λ (j : JobFacts). is_better (rank j) (rank x)) (sym same) ∙ not_itself (rank x)
      | inr there ↦ absurd (differ (sym due ∙ none job there))
    ];
  }
    where
      differ : true ≡ false → ⊥
      differ e = cc

  better : (top : Rank) (t : Bool) → is_better top (rank x) ≡ t → is_waiting x.state ≡ true → IsBest xs top → IsBest (x ∷ xs) (cond t top (rank x))
  better top true more is high = record {
    there = (high.there.0, behind_in x high.there.0 xs high.there.1, high.there.2, high.there.3);
    best = λ job inside due. elim (cases_in x job xs inside) [
      | inl same ↦ ap (λ (j : JobFacts). is_better (rank j) top) (sym same) ∙ one_way top (rank x) more
      | inr there ↦ high.best job there due
    ];
  }
  better top false less is high = record {
    there = (x, first_in x xs, is, refl);
    best = λ job inside due. elim (cases_in x job xs inside) [
      | inl same ↦ ap (λ (j : JobFacts). is_better (rank j) (rank x)) (sym same) ∙ not_itself (rank x)
      | inr there ↦ never_better (rank job) top (rank x) (high.best job there due) less
    ];
  }

pub best_is_best : BestIsBest
best_is_best [] = λ job inside. absurd (none_in job inside)
best_is_best (x ∷ xs) = go (is_waiting x.state) refl (best xs) (best_is_best xs)
  where
    go : (t : Bool) → is_waiting x.state ≡ t → (top : Option Rank) → MatchOption top (HasNone is_waiting xs) (IsBest xs)
        → MatchOption (cond t (Some (better_of (rank x) top)) top) (HasNone is_waiting (x ∷ xs)) (IsBest (x ∷ xs))
    go true is None none = best_only x xs is none
    go true is (Some top) high = better x xs top (is_better top (rank x)) refl is high
    go false isnt None none = none_more is_waiting x xs isnt none
    go false isnt (Some top) high = best_passed_over x xs top isnt high

-- ---- a better one

pub makes_way_to_better : MakesWayToBetter
makes_way_to_better job jobs = (some_better jobs, is_found jobs)
  where
    test : JobFacts → Bool
    test other = is_waiting other.state && is_better (rank other) (rank job)

    some_better : (xs : List JobFacts) → list_any test xs ≡ true
        → (other : JobFacts) × Contains xs other × (is_waiting other.state ≡ true) × (is_better (rank other) (rank job) ≡ true)
    some_better [] e = absurd cc
    some_better (x ∷ xs) e = go (test x) refl e (some_better xs)
      where
        go : (t : Bool) → test x ≡ t → (t || list_any test xs) ≡ true
            → (list_any test xs ≡ true → (other : JobFacts) × Contains xs other × (is_waiting other.state ≡ true) × (is_better (rank other) (rank job) ≡ true))
            → (other : JobFacts) × Contains (x ∷ xs) other × (is_waiting other.state ≡ true) × (is_better (rank other) (rank job) ≡ true)
        go true is e ih = let parts = and_parts (is_waiting x.state) (is_better (rank x) (rank job)) is in (x, first_in x xs, parts.0, parts.1)
        go false is e ih = let found = ih e in (found.0, behind_in x found.0 xs found.1, found.2, found.3)

    is_found : (xs : List JobFacts) → (other : JobFacts) × Contains xs other × (is_waiting other.state ≡ true) × (is_better (rank other) (rank job) ≡ true)
        → list_any test xs ≡ true
    is_found xs (other, inside, waits, more) = any_at test xs other inside (and_from (is_waiting other.state) (is_better (rank other) (rank job)) waits more)
