-- Tags in order are those that were there, and a set where a set may have them.
use Rattle.std.proofs.Common.{◌≡◌, ℕ, suc, ◌+◌, ◌≤◌, Bool, true, false, ◌&&◌, ◌||◌, not, nat_le, List, [], ◌∷◌, length, refl, sym, ap, ◌∙◌, arith, IsPermutation}
use Rattle.std.specs.List.{list_all, list_any}
use Rattle.std.specs.Ordering.{nat_cmp, is_lt, is_eq, ordering_reverse}
use Rattle.std.specs.Cmp.Lexicographic.{slice_cmp}
use Rattle.std.specs.declared.cmp.Ordering.{Ordering}
use Rattle.std.specs.declared.cmp.Ordering.TheVariants.{Less, Equal, Greater}
use Rattle.std.specs.Str.{bytes_eq}
use Rattle.std.proofs.lemmas.Bool.{and_parts, and_from}
use Rattle.std.proofs.lemmas.Cmp.{nat_list_cmp_total}
use Rattle.std.proofs.lemmas.List.Sorted.{IsPermutation-refl, IsPermutation-cons, IsPermutation-trans, IsPermutation-insert}
use Rattle.std.proofs.lemmas.List.Edits.{length-insert}
use Rattle.std.proofs.lemmas.List.Sums.{prefix_len-le-length}
use Rattle.std.proofs.lemmas.Map.Text.{is_eq-slice_cmp}
use Rattle.s3r_names.specs.Tags.{is_tag, is_key_below, has_key, has_distinct_keys, has_rising_keys, place_of, with_tag, in_key_order, is_tag_list, is_tag_set}
use Rattle.s3r_names.specs.declared.tags.Tag.{Tag}

abbrev cmp : List ℕ → List ℕ → Ordering
cmp a b = slice_cmp nat_cmp a b

is_less : (o : Ordering) → is_lt o ≡ true → o ≡ Less
is_less Less e = refl
is_less Equal e = absurd cc
is_less Greater e = absurd cc

below-trans : (a b c : List ℕ) → is_key_below a b ≡ true → is_key_below b c ≡ true → is_key_below a c ≡ true
below-trans a b c first second = ap is_lt (nat_list_cmp_total.trans a b c (is_less (cmp a b) first) (is_less (cmp b c) second))

-- how two keys stand to each other, each way
record HasOrder (a b : List ℕ) (below equal above : Bool) : Type 0 where
  down : is_key_below a b ≡ below
  same : bytes_eq a b ≡ equal
  same_back : bytes_eq b a ≡ equal
  up : is_key_below b a ≡ above

ordered : (a b : List ℕ) (o : Ordering) → cmp a b ≡ o → HasOrder a b (is_lt o) (is_eq o) (is_lt (ordering_reverse o))
ordered a b o e =
    let back : cmp b a ≡ ordering_reverse o = nat_list_cmp_total.antisymm b a ∙ ap ordering_reverse e in
    record {
      down = ap is_lt e;
      same = sym (is_eq-slice_cmp a b) ∙ ap is_eq e;
      same_back = sym (is_eq-slice_cmp b a) ∙ ap is_eq back ∙ eq_back o;
      up = ap is_lt back;
    } where
      eq_back : (o : Ordering) → is_eq (ordering_reverse o) ≡ is_eq o
      eq_back Less = refl
      eq_back Equal = refl
      eq_back Greater = refl

-- a tag goes behind a tag that is below it, and before any other
with_tag-behind : (tag first : Tag) (tags : List Tag) → is_key_below first.key tag.key ≡ true → with_tag tag (first ∷ tags) ≡ first ∷ with_tag tag tags
with_tag-behind tag first tags e =
    let more : 1 + place_of tag.key tags ≡ suc (place_of tag.key tags) = omega arith in
    rw (e, more) refl

with_tag-before : (tag first : Tag) (tags : List Tag) → is_key_below first.key tag.key ≡ false → with_tag tag (first ∷ tags) ≡ tag ∷ first ∷ tags
with_tag-before tag first tags e = rw e refl

swapped_and : (a b c : Bool) → (a && (b && c)) ≡ (b && (a && c))
swapped_and true b c = refl
swapped_and false true c = refl
swapped_and false false c = refl

swapped_or : (a b c : Bool) → (a || (b || c)) ≡ (b || (a || c))
swapped_or false b c = refl
swapped_or true true c = refl
swapped_or true false c = refl

module _ (test : Tag → Bool) where
  all_at : (tag first : Tag) (tags : List Tag) (b : Bool) → is_key_below first.key tag.key ≡ b
      → list_all test (with_tag tag tags) ≡ (test tag && list_all test tags)
      → list_all test (with_tag tag (first ∷ tags)) ≡ (test tag && list_all test (first ∷ tags))
  all_at tag first tags true e h = ap (list_all test) (with_tag-behind tag first tags e) ∙ ap (λ b. test first && b) h
      ∙ swapped_and (test first) (test tag) (list_all test tags)
  all_at tag first tags false e h = ap (list_all test) (with_tag-before tag first tags e)

  pub all-with_tag : (tag : Tag) (tags : List Tag) → list_all test (with_tag tag tags) ≡ (test tag && list_all test tags)
  all-with_tag tag [] = refl
  all-with_tag tag (first ∷ tags) = all_at tag first tags (is_key_below first.key tag.key) refl (all-with_tag tag tags)

  any_at : (tag first : Tag) (tags : List Tag) (b : Bool) → is_key_below first.key tag.key ≡ b
      → list_any test (with_tag tag tags) ≡ (test tag || list_any test tags)
      → list_any test (with_tag tag (first ∷ tags)) ≡ (test tag || list_any test (first ∷ tags))
  any_at tag first tags true e h = ap (list_any test) (with_tag-behind tag first tags e) ∙ ap (λ b. test first || b) h
      ∙ swapped_or (test first) (test tag) (list_any test tags)
  any_at tag first tags false e h = ap (list_any test) (with_tag-before tag first tags e)

  pub any-with_tag : (tag : Tag) (tags : List Tag) → list_any test (with_tag tag tags) ≡ (test tag || list_any test tags)
  any-with_tag tag [] = refl
  any-with_tag tag (first ∷ tags) = any_at tag first tags (is_key_below first.key tag.key) refl (any-with_tag tag tags)

  pub all-in_key_order : (tags : List Tag) → list_all test (in_key_order tags) ≡ list_all test tags
  all-in_key_order [] = refl
  all-in_key_order (tag ∷ tags) = all-with_tag tag (in_key_order tags) ∙ ap (λ b. test tag && b) (all-in_key_order tags)

  pub any-in_key_order : (tags : List Tag) → list_any test (in_key_order tags) ≡ list_any test tags
  any-in_key_order [] = refl
  any-in_key_order (tag ∷ tags) = any-with_tag tag (in_key_order tags) ∙ ap (λ b. test tag || b) (any-in_key_order tags)

-- each tag is below all that follow it
abbrev are_above : List ℕ → List Tag → Bool
are_above key tags = list_all (λ (tag : Tag). is_key_below key tag.key) tags

abbrev rises : List Tag → Bool
rises [] = true
rises (tag ∷ tags) = are_above tag.key tags && rises tags

absorbed : (a r : Bool) → (r ≡ true → a ≡ true) → (a && r) ≡ r
absorbed true r h = refl
absorbed false true h = h refl
absorbed false false h = refl

are_above-trans : (a b : List ℕ) (tags : List Tag) → is_key_below a b ≡ true → are_above b tags ≡ true → are_above a tags ≡ true
are_above-trans a b [] low h = refl
are_above-trans a b (tag ∷ tags) low h =
    let parts = and_parts (is_key_below b tag.key) (are_above b tags) h in
    and_from (is_key_below a tag.key) (are_above a tags) (below-trans a b tag.key low parts.0) (are_above-trans a b tags low parts.1)

none_same : (key : List ℕ) (tags : List Tag) → are_above key tags ≡ true → has_key key tags ≡ false
none_same key [] h = refl
none_same key (tag ∷ tags) h =
    let parts = and_parts (is_key_below key tag.key) (are_above key tags) h in
    rw ((ordered key tag.key Less (is_less (cmp key tag.key) parts.0)).same_back, none_same key tags parts.1) refl

two_rise : (tag next : Tag) (tags : List Tag) (b : Bool) → is_key_below tag.key next.key ≡ b
    → ((is_key_below tag.key next.key && are_above tag.key tags) && (are_above next.key tags && rises tags)) ≡
    (is_key_below tag.key next.key && (are_above next.key tags && rises tags))
two_rise tag next tags false e = rw e refl
two_rise tag next tags true e = rw e (absorbed (are_above tag.key tags) (are_above next.key tags && rises tags)
    (λ h. are_above-trans tag.key next.key tags e (and_parts (are_above next.key tags) (rises tags) h).0))

rises-is : (tags : List Tag) → rises tags ≡ has_rising_keys tags
rises-is [] = refl
rises-is (tag ∷ []) = refl
rises-is (tag ∷ next ∷ tags) = two_rise tag next tags (is_key_below tag.key next.key) refl
    ∙ ap (λ b. is_key_below tag.key next.key && b) (rises-is (next ∷ tags))

same_with : (a b r : Bool) → (r ≡ true → a ≡ b) → (a && r) ≡ (b && r)
same_with a b true h = ap (λ c. c && true) (h refl)
same_with true true false h = refl
same_with true false false h = refl
same_with false true false h = refl
same_with false false false h = refl

rises_at : (tag first : Tag) (tags : List Tag) (o : Ordering) → cmp first.key tag.key ≡ o
    → rises (with_tag tag tags) ≡ (not (has_key tag.key tags) && rises tags)
    → rises (with_tag tag (first ∷ tags)) ≡ (not (has_key tag.key (first ∷ tags)) && rises (first ∷ tags))
rises_at tag first tags Less e h =
    let is = ordered first.key tag.key Less e in
    ap rises (with_tag-behind tag first tags is.down)
    ∙ ap (λ b. b && rises (with_tag tag tags)) (all-with_tag (λ (next : Tag). is_key_below first.key next.key) tag tags
    ∙ ap (λ b. b && are_above first.key tags) is.down)
    ∙ ap (λ b. are_above first.key tags && b) h
    ∙ swapped_and (are_above first.key tags) (not (has_key tag.key tags)) (rises tags)
    ∙ sym (ap (λ b. not (b || has_key tag.key tags) && rises (first ∷ tags)) is.same)
rises_at tag first tags Equal e h =
    let is = ordered first.key tag.key Equal e in
    ap rises (with_tag-before tag first tags is.down)
    ∙ ap (λ b. (b && are_above tag.key tags) && rises (first ∷ tags)) is.up
    ∙ sym (ap (λ b. not (b || has_key tag.key tags) && rises (first ∷ tags)) is.same)
rises_at tag first tags Greater e h =
    let is = ordered first.key tag.key Greater e in
    ap rises (with_tag-before tag first tags is.down)
    ∙ ap (λ b. (b && are_above tag.key tags) && rises (first ∷ tags)) is.up
    ∙ same_with (are_above tag.key tags) (not (has_key tag.key tags)) (rises (first ∷ tags)) (λ r.
    let above = are_above-trans tag.key first.key tags is.up (and_parts (are_above first.key tags) (rises tags) r).0 in
    above ∙ sym (ap not (none_same tag.key tags above)))
    ∙ sym (ap (λ b. not (b || has_key tag.key tags) && rises (first ∷ tags)) is.same)

rises-with_tag : (tag : Tag) (tags : List Tag) → rises (with_tag tag tags) ≡ (not (has_key tag.key tags) && rises tags)
rises-with_tag tag [] = refl
rises-with_tag tag (first ∷ tags) = rises_at tag first tags (cmp first.key tag.key) refl (rises-with_tag tag tags)

rises-in_key_order : (tags : List Tag) → rises (in_key_order tags) ≡ has_distinct_keys tags
rises-in_key_order [] = refl
rises-in_key_order (tag ∷ tags) =
    rises-with_tag tag (in_key_order tags)
    ∙ ap (λ b. not b && rises (in_key_order tags)) (any-in_key_order (λ (other : Tag). bytes_eq other.key tag.key) tags)
    ∙ ap (λ b. not (has_key tag.key tags) && b) (rises-in_key_order tags)

length-in_key_order : (tags : List Tag) → length (in_key_order tags) ≡ length tags
length-in_key_order [] = refl
length-in_key_order (tag ∷ tags) =
    let place = place_of tag.key (in_key_order tags) in
    let within : place ≤ length (in_key_order tags) = prefix_len-le-length (λ (other : Tag). is_key_below other.key tag.key) (in_key_order tags) in
    omega (arith, length-insert (in_key_order tags) place tag within, length-in_key_order tags)

pub in_key_order-set : (tags : List Tag) → is_tag_set (in_key_order tags) ≡ is_tag_list tags
in_key_order-set tags =
    let rising : has_rising_keys (in_key_order tags) ≡ has_distinct_keys tags = sym (rises-is (in_key_order tags)) ∙ rises-in_key_order tags in
    rw (length-in_key_order tags, all-in_key_order is_tag tags, rising) refl

pub in_key_order-permutation : (tags : List Tag) → IsPermutation tags (in_key_order tags)
in_key_order-permutation [] = IsPermutation-refl []
in_key_order-permutation (tag ∷ tags) =
    IsPermutation-trans (tag ∷ tags) (tag ∷ in_key_order tags) (with_tag tag (in_key_order tags))
    (IsPermutation-cons tag tags (in_key_order tags) (in_key_order-permutation tags))
    (IsPermutation-insert (in_key_order tags) (place_of tag.key (in_key_order tags)) tag)

stays_first : (tag : Tag) (tags : List Tag) → are_above tag.key tags ≡ true → with_tag tag tags ≡ tag ∷ tags
stays_first tag [] h = refl
stays_first tag (first ∷ tags) h =
    let low = (and_parts (is_key_below tag.key first.key) (are_above tag.key tags) h).0 in
    with_tag-before tag first tags (ordered tag.key first.key Less (is_less (cmp tag.key first.key) low)).up

stays : (tags : List Tag) → rises tags ≡ true → in_key_order tags ≡ tags
stays [] h = refl
stays (tag ∷ tags) h =
    let parts = and_parts (are_above tag.key tags) (rises tags) h in
    ap (with_tag tag) (stays tags parts.1) ∙ stays_first tag tags parts.0

-- a set's tags are in order
pub set-in_key_order : (tags : List Tag) → is_tag_set tags ≡ true → in_key_order tags ≡ tags
set-in_key_order tags h = stays tags (rises-is tags ∙ (and_parts (nat_le (length tags) 10 && list_all is_tag tags) (has_rising_keys tags) h).1)

pub set-is_tag_list : (tags : List Tag) → is_tag_set tags ≡ true → is_tag_list tags ≡ true
set-is_tag_list tags h = sym (in_key_order-set tags) ∙ ap is_tag_set (set-in_key_order tags h) ∙ h
