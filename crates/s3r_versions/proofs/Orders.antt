-- The orders of stamps and of ids, and tests that are the less-than of an order.
use Rattle.std.proofs.Common.{◌≡◌, ℕ, Bool, true, false, cond, ◌&&◌, ◌||◌, ◌==◌, nat_lt, Ordering, Less, Equal, Greater, nat_cmp, is_lt, is_eq, refl, sym, ap, ◌∙◌, true≢false}
use Rattle.std.specs.Cmp.{IsTotalOrder}
use Rattle.std.specs.Ordering.{ordering_then, ordering_reverse}
use Rattle.std.proofs.lemmas.Cmp.{nat_cmp_total, on_total, then_total}
use Rattle.std.proofs.lemmas.Bool.{and_parts, and_from, false_from_ne_true}
use Rattle.s3r_names.specs.Stamp.{is_before}
use Rattle.s3r_names.specs.declared.stamp.Stamp.{Stamp}
use Rattle.s3r_names.specs.declared.version.VersionId.{VersionId}
use Rattle.s3r_versions.specs.Order.{is_id_before}
use Rattle.s3r_versions.specs.Lookup.{id_eq}

-- what tests answer, by orders
pub lt-then : (o r : Ordering) → is_lt (ordering_then o r) ≡ (is_lt o || (is_eq o && is_lt r))
lt-then Less r = refl
lt-then Equal r = refl
lt-then Greater r = refl

pub eq-then : (o r : Ordering) → is_eq (ordering_then o r) ≡ (is_eq o && is_eq r)
eq-then Less r = refl
eq-then Equal r = refl
eq-then Greater r = refl

lt-nat_cmp : (a b : ℕ) → is_lt (nat_cmp a b) ≡ nat_lt a b
lt-nat_cmp a b = go (nat_lt a b) (a == b)
  where
    go : (t e : Bool) → is_lt (cond t Less (cond e Equal Greater)) ≡ t
    go true e = refl
    go false true = refl
    go false false = refl

lt-then-nat_cmp : (a b : ℕ) (r : Ordering) → is_lt (ordering_then (nat_cmp a b) r) ≡ (nat_lt a b || ((a == b) && is_lt r))
lt-then-nat_cmp a b r = go (nat_lt a b) (a == b)
  where
    go : (t e : Bool) → is_lt (ordering_then (cond t Less (cond e Equal Greater)) r) ≡ (t || (e && is_lt r))
    go true e = refl
    go false true = refl
    go false false = refl

eq-nat_cmp : (a b : ℕ) → is_eq (nat_cmp a b) ≡ true → (a == b) ≡ true
eq-nat_cmp a b = go (nat_lt a b) (a == b)
  where
    go : (t e : Bool) → is_eq (cond t Less (cond e Equal Greater)) ≡ true → e ≡ true
    go true e h = absurd (true≢false (sym h))
    go false true h = refl
    go false false h = h

is-Less : (o : Ordering) → is_lt o ≡ true → o ≡ Less
is-Less Less h = refl
is-Less Equal h = absurd (true≢false (sym h))
is-Less Greater h = absurd (true≢false (sym h))

-- ---- a test that is the less-than of an order

pub record IsLess {X : Type 0} (order : X → X → Ordering) (test : X → X → Bool) : Type 0 where
  pub total : IsTotalOrder order
  pub same : (a b : X) → is_lt (order a b) ≡ test a b

pub less_trans : {X : Type 0} {order : X → X → Ordering} {test : X → X → Bool} → IsLess order test → (a b c : X) → test a b ≡ true → test b c ≡ true
    → test a c ≡ true
less_trans {X} {order} is a b c p q =
    sym (is.same a c) ∙ ap is_lt (is.total.trans a b c (is-Less (order a b) (is.same a b ∙ p)) (is-Less (order b c) (is.same b c ∙ q)))

pub less_asym : {X : Type 0} {order : X → X → Ordering} {test : X → X → Bool} → IsLess order test → (a b : X) → test a b ≡ true → test b a ≡ false
less_asym {X} {order} is a b p =
    sym (is.same b a) ∙ ap is_lt (is.total.antisymm b a ∙ ap ordering_reverse (is-Less (order a b) (is.same a b ∙ p)))

pub less_irrefl : {X : Type 0} {order : X → X → Ordering} {test : X → X → Bool} → IsLess order test → (a : X) → test a a ≡ false
less_irrefl {X} {order} {test} is a = false_from_ne_true (test a a) (λ h. true≢false (sym h ∙ less_asym is a a h))

-- of two that aren't tied one is less
pub less_back : {X : Type 0} {order : X → X → Ordering} {test : X → X → Bool} → IsLess order test → (a b : X) → (order a b ≡ Equal → ⊥) → test a b ≡ false
    → test b a ≡ true
less_back {X} {order} {test} is a b untied h = go (order a b) refl
  where
    go : (o : Ordering) → order a b ≡ o → test b a ≡ true
    go Less e = absurd (true≢false (sym (ap is_lt e) ∙ is.same a b ∙ h))
    go Equal e = absurd (untied e)
    go Greater e = sym (is.same b a) ∙ ap is_lt (is.total.antisymm b a ∙ ap ordering_reverse e)

-- ---- stamps and ids

abbrev pub id_cmp : VersionId → VersionId → Ordering
id_cmp a b = ordering_then (nat_cmp a.region b.region) (nat_cmp a.index b.index)

abbrev pub stamp_cmp : Stamp → Stamp → Ordering
stamp_cmp a b = ordering_then (nat_cmp a.n b.n) (ordering_then (nat_cmp a.region b.region) (nat_cmp a.index b.index))

id_test : (r i s j : ℕ) → is_lt (ordering_then (nat_cmp r s) (nat_cmp i j)) ≡ (nat_lt r s || ((r == s) && nat_lt i j))
id_test r i s j = lt-then-nat_cmp r s _ ∙ ap (λ t. nat_lt r s || ((r == s) && t)) (lt-nat_cmp i j)

pub id_order : IsLess id_cmp is_id_before
id_order = record {
  total = then_total (on_total (λ (id : VersionId). id.region) nat_cmp_total) (on_total (λ (id : VersionId). id.index) nat_cmp_total);
  same = λ a b. id_test a.region a.index b.region b.index;
}

pub stamp_order : IsLess stamp_cmp is_before
stamp_order = record {
  total = then_total (on_total (λ (s : Stamp). s.n) nat_cmp_total) (then_total (on_total (λ (s : Stamp). s.region) nat_cmp_total)
      (on_total (λ (s : Stamp). s.index) nat_cmp_total));
  same = λ a b. lt-then-nat_cmp a.n b.n _ ∙ ap (λ t. nat_lt a.n b.n || ((a.n == b.n) && t)) (id_test a.region a.index b.region b.index);
}

pub id_tied : (a b : VersionId) → is_eq (id_cmp a b) ≡ true → id_eq a b ≡ true
id_tied a b h =
    let parts = and_parts _ _ (sym (eq-then (nat_cmp a.region b.region) (nat_cmp a.index b.index)) ∙ h) in
    and_from _ _ (eq-nat_cmp a.region b.region parts.0) (eq-nat_cmp a.index b.index parts.1)

-- of two ids one is before the other
pub id_back : (a b : VersionId) → id_eq a b ≡ false → is_id_before a b ≡ false → is_id_before b a ≡ true
id_back a b other h = less_back id_order a b (λ e. true≢false (sym (id_tied a b (ap is_eq e)) ∙ other)) h
