-- What a write sends is what the history prescribes.
use Rattle.std.proofs.Common.{◌≡◌, ℕ, suc, ◌+◌, Bool, true, false, cond, not, ◌&&◌, ◌||◌, nat_lt, nat_le, List, [], ◌∷◌, Option, Some, None, map, length, bytes_eq, refl, sym, ap, ◌∙◌, subst, arith, true≢false, lt-ltb, ltb-true}
use Rattle.std.specs.Prelude.{option_map, unwrap_or, slice_get, position, find}
use Rattle.std.specs.List.{list_any, filter_map, cons_option, position_or_len}
use Rattle.std.specs.Option.{option_and_then}
use Rattle.std.proofs.lemmas.Bool.{and_parts}
use Rattle.std.proofs.lemmas.Option.{same_Some}
use Rattle.std.proofs.lemmas.Slice.Eq.{bytes_eq-Decides}
use Rattle.s3r_queue.specs.declared.task.Task.{Task}
use Rattle.s3r_record.specs.declared.effect.Effect.TheVariants as effects
use Rattle.s3r_rules.specs.Choice.{is_to, matches_write, fits, is_choice, choice}
use Rattle.s3r_rules.specs.Choice as rules
use Rattle.s3r_rules.specs.Choices.{is_for, choice_to}
use Rattle.s3r_rules.specs.Destinations.{destinations}
use Rattle.s3r_rules.specs.declared.rule.Rule.{Rule}
use Rattle.s3r_rules.proofs.ChoicePlaces.{choice-place}
use Rattle.s3r_history.specs.declared.replication.Replication.{Replication}
use Rattle.s3r_history.specs.declared.sent.Prescribed.{Prescribed}
use Rattle.s3r_history.specs.Words.{Name}
use Rattle.s3r_history.specs.Past.{Entry, Carried}
use Rattle.s3r_history.specs.Sending.{region_of, Destination, to_region, to_each, copies}
use Rattle.s3r_region.specs.Prescribing.{Written, asked_of, was_prescribed, effect_by, at_region, sent_by, choice_sends, sends_by_config}

-- ---- a destination's region and rule

-- the region beside the first rule to the bucket
beside-first : (to : Name) (rs : List Rule) (regions : List ℕ) → list_any (is_for to) rs ≡ true
    → unwrap_or (slice_get regions (position_or_len (is_for to) rs)) 0 ≡ region_of to rs regions
beside-first to [] regions some = absurd (true≢false (sym some))
beside-first to (r ∷ rs) [] some = refl
beside-first to (r ∷ rs) (d ∷ regions) some = go (bytes_eq r.bucket to) some (beside-first to rs regions)
  where
    go : (t : Bool) → (t || list_any (is_for to) rs) ≡ true
        → (list_any (is_for to) rs ≡ true → unwrap_or (slice_get regions (position_or_len (is_for to) rs)) 0 ≡ region_of to rs regions)
        → unwrap_or (slice_get (d ∷ regions) (cond (not t) (1 + position_or_len (is_for to) rs) 0)) 0 ≡ cond t d (region_of to rs regions)
    go true some ih = refl
    go false some ih = let step : 1 + position_or_len (is_for to) rs ≡ suc (position_or_len (is_for to) rs) = omega arith in
        ap (λ i. unwrap_or (slice_get (d ∷ regions) i) 0) step ∙ ih some

some-within : {X : Type 0} (p : X → Bool) (xs : List X) → list_any p xs ≡ true → nat_lt (position_or_len p xs) (length xs) ≡ true
some-within p [] some = absurd (true≢false (sym some))
some-within p (x ∷ xs) some = go (p x) some (some-within p xs)
  where
    go : (t : Bool) → (t || list_any p xs) ≡ true → (list_any p xs ≡ true → nat_lt (position_or_len p xs) (length xs) ≡ true)
        → nat_lt (cond (not t) (1 + position_or_len p xs) 0) (suc (length xs)) ≡ true
    go true some ih = lt-ltb 0 (suc (length xs)) (omega arith)
    go false some ih = let lt = ltb-true (position_or_len p xs) (length xs) (ih some) in lt-ltb (1 + position_or_len p xs) (suc (length xs)) (omega arith)

region-at : (to : Name) (rs : List Rule) (regions : List ℕ) → list_any (is_for to) rs ≡ true
    → unwrap_or (slice_get regions (unwrap_or (position (is_for to) rs) 0)) 0 ≡ region_of to rs regions
region-at to rs regions some =
    ap (λ t. unwrap_or (slice_get regions (unwrap_or (cond t (Some (position_or_len (is_for to) rs)) None) 0)) 0) (some-within (is_for to) rs some)
    ∙ beside-first to rs regions some

-- a rule that is found passes the test, and some rule does
found : {X : Type 0} (p q : X → Bool) → ((x : X) → p x ≡ true → q x ≡ true) → (xs : List X) (x : X) → find p xs ≡ Some x
    → (q x ≡ true) × (list_any q xs ≡ true)
found p q weaker [] x e = absurd cc
found p q weaker (y ∷ ys) x e = go (p y) refl e (found p q weaker ys x)
  where
    or-true : (t : Bool) → list_any q ys ≡ true → (t || list_any q ys) ≡ true
    or-true true h = refl
    or-true false h = h

    go : (t : Bool) → p y ≡ t → cond t (Some y) (find p ys) ≡ Some x → (find p ys ≡ Some x → (q x ≡ true) × (list_any q ys ≡ true))
        → (q x ≡ true) × (list_any q (y ∷ ys) ≡ true)
    go true is e ih = (subst (λ z. q z ≡ true) (same_Some y x e) (weaker y is), ap (λ t. t || list_any q ys) (weaker y is))
    go false is e ih = let rest = ih e in (rest.0, or-true (q y) rest.1)

chosen-is_for : (to : Name) (w : rules.Write) (rs : List Rule) (rule : Rule) → is_choice (fits to w) rs rule ≡ true → is_for to rule ≡ true
chosen-is_for to w rs rule e =
    let fit = (and_parts (fits to w rule) _ e).0 in
    let here = (and_parts (is_to to rule) (matches_write w rule) fit).0 in
    (and_parts rule.enabled (bytes_eq rule.bucket to) here).1

-- ---- one destination after the other

-- what is given to a destination is what its choice sends there
pub record Gives (outbox : List (List (Task Prescribed))) (b : Name) (w : Written) (config : Replication) (give : List Rule → Destination → Option Carried)
    : Type 0 where
  pub same : (to : Destination) → option_and_then (effect_by outbox b w to) (choice (fits to.bucket (asked_of w)) config.config) ≡ give config.config to

to-one : (outbox : List (List (Task Prescribed))) (b : Name) (w : Written) (config : Replication) (give : List Rule → Destination → Option Carried) (to : Name)
    → Gives outbox b w config give → choice_sends outbox b w config (choice_to (asked_of w) config.config to)
    ≡ option_map (to_region (region_of to config.config config.regions))
    (give config.config (record { bucket = to; region = region_of to config.config config.regions }))
to-one outbox b w config give to gives =
    ap (option_and_then (sent_by outbox b w (unwrap_or (slice_get config.regions (unwrap_or (position (is_for to) config.config) 0)) 0)))
    (sym (choice-place (fits to (asked_of w)) config.config))
    ∙ go (choice (fits to (asked_of w)) config.config) refl
    ∙ ap (option_map (to_region at)) (gives.same (record { bucket = to; region = at }))
  where
    at : ℕ
    at = region_of to config.config config.regions

    go : (o : Option Rule) → choice (fits to (asked_of w)) config.config ≡ o
        → option_and_then (sent_by outbox b w (unwrap_or (slice_get config.regions (unwrap_or (position (is_for to) config.config) 0)) 0)) o
        ≡ option_map (to_region at) (option_and_then (effect_by outbox b w (record { bucket = to; region = at })) o)
    go None e = refl
    go (Some rule) e =
        let is = found (is_choice (fits to (asked_of w)) config.config) (is_for to) (chosen-is_for to (asked_of w) config.config) config.config rule e in
        ap (λ d. sent_by outbox b w d rule) (region-at to config.config config.regions is.1)
        ∙ ap (λ name. at_region at (effect_by outbox b w (record { bucket = name; region = at }) rule)) ((bytes_eq-Decides rule.bucket to).0 is.0)

filter-through : {X Y Z : Type 0} (f : Y → Option Z) (g : X → Y) (h : X → Option Z) → ((x : X) → f (g x) ≡ h x) → (xs : List X)
    → filter_map f (map g xs) ≡ filter_map h xs
filter-through f g h same [] = refl
filter-through f g h same (x ∷ xs) =
    ap (λ o. cons_option o (filter_map f (map g xs))) (same x) ∙ ap (cons_option (h x)) (filter-through f g h same xs)

pub sends-each : (outbox : List (List (Task Prescribed))) (b : Name) (w : Written) (give : List Rule → Destination → Option Carried)
    → ((config : Replication) → Gives outbox b w config give) → (config : Option Replication) → sends_by_config outbox b w config ≡ to_each give config
sends-each outbox b w give gives None = refl
sends-each outbox b w give gives (Some config) =
    filter-through (choice_sends outbox b w config) (choice_to (asked_of w) config.config)
    (λ to. let at = region_of to config.config config.regions in option_map (to_region at) (give config.config (record { bucket = to; region = at })))
    (λ to. to-one outbox b w config give to (gives config)) (destinations config.config)

-- ---- what was prescribed

-- a row is copied to a bucket, whatever its region is
copies-anywhere : (b : Name) (row : Entry) (to : Name) (d : ℕ) (e : Carried)
    → copies b row (record { bucket = to; region = 0 }) e ≡ copies b row (record { bucket = to; region = d }) e
copies-anywhere b row to d (effects.Replica from name key id n tags tags_stamp hold hold_stamp class body) = refl
copies-anywhere b row to d (effects.Marker from name key id n) = refl
copies-anywhere b row to d (effects.Tags from name key id tags stamp) = refl
copies-anywhere b row to d (effects.Hold from name key id hold stamp) = refl

pub prescribed-anywhere : (b : Name) (row : Entry) (to : Name) (d : ℕ) (ts : List (Task Prescribed))
    → was_prescribed b row (record { bucket = to; region = 0 }) ts ≡ was_prescribed b row (record { bucket = to; region = d }) ts
prescribed-anywhere b row to d [] = refl
prescribed-anywhere b row to d (t ∷ ts) =
    ap (λ u. (nat_le row.place t.effect.place && u) || was_prescribed b row (record { bucket = to; region = 0 }) ts)
    (copies-anywhere b row to d t.effect.effect)
    ∙ ap (λ u. (nat_le row.place t.effect.place && copies b row (record { bucket = to; region = d }) t.effect.effect) || u) (prescribed-anywhere b row to d ts)
