-- Where a head ends in more bytes, in fewer, and in the text of a request.
use Rattle.std.proofs.Common.{◌≡◌, ℕ, zero, suc, ◌+◌, ◌-◌, ◌<◌, ◌≤◌, true, false, cond, List, [], ◌∷◌, ◌++◌, length, take, drop, Option, Some, None, refl, inl, inr, sym, ◌∙◌, ap, subst, arith, length-append, length-drop, take-append-drop}
use Rattle.std.specs.Option.{option_map}
use Rattle.std.specs.Prelude.{nat_eq}
use Rattle.std.specs.Cmp.Lexicographic.{pointwise}
use Rattle.std.proofs.lemmas.Bool.{cases_Bool, cases_lt}
use Rattle.std.proofs.lemmas.Bool.Decides.{Decides-eqb}
use Rattle.std.proofs.lemmas.List.{take-append-le, drop-append-le, length-take-le, take-take}
use Rattle.std.proofs.lemmas.Slice.Eq.{starts_is}
use Rattle.s3r_http.specs.declared.head.Head.{Head}
use Rattle.s3r_http.specs.declared.head.Head.TheVariants.{Found, TooLong, Cut}
use Rattle.s3r_http.specs.Head.{begins_empty_line, head_length, NoneBefore, HeadIs}

abbrev empty_line : List ℕ
empty_line = 13 ∷ 10 ∷ 13 ∷ 10 ∷ []

long_enough : (bytes : List ℕ) → begins_empty_line bytes ≡ true → 4 ≤ length bytes
long_enough bytes begins =
    let whole : bytes ≡ empty_line ++ drop 4 bytes = (starts_is Decides-eqb bytes empty_line _ refl).0 begins in
    omega (arith, ap length whole, length-append empty_line (drop 4 bytes))

same_begin : (xs ys : List ℕ) → 4 ≤ length xs → begins_empty_line (xs ++ ys) ≡ begins_empty_line xs
same_begin xs ys le = ap (pointwise nat_eq empty_line) (take-append-le 4 xs ys le)

pub skips : (b : ℕ) (bytes : List ℕ) → begins_empty_line (b ∷ bytes) ≡ false → head_length (b ∷ bytes) ≡ option_map (λ n. n + 1) (head_length bytes)
skips b bytes is = ap (λ t. cond t (Some 4) (option_map (λ n. n + 1) (head_length bytes))) is

stops : (b : ℕ) (bytes : List ℕ) → begins_empty_line (b ∷ bytes) ≡ true → head_length (b ∷ bytes) ≡ Some 4
stops b bytes is = ap (λ t. cond t (Some 4) (option_map (λ n. n + 1) (head_length bytes))) is

pub found_at : (bytes : List ℕ) (i : ℕ) → NoneBefore i bytes → begins_empty_line (drop i bytes) ≡ true → head_length bytes ≡ Some (i + 4)
found_at [] zero none begins = cc
found_at [] (suc i) none begins = cc
found_at (b ∷ bytes) zero none begins = stops b bytes begins
found_at (b ∷ bytes) (suc i) none begins =
    skips b bytes (none 0 (omega arith)) ∙ ap (option_map (λ n. n + 1)) (found_at bytes i (λ j l. none (suc j) (omega arith)) begins) ∙ ap Some (omega arith)

pub none_found : (bytes : List ℕ) → NoneBefore (length bytes) bytes → head_length bytes ≡ None
none_found [] none = refl
none_found (b ∷ bytes) none = skips b bytes (none 0 (omega arith)) ∙ ap (option_map (λ n. n + 1)) (none_found bytes (λ j l. none (suc j) (omega arith)))

-- with more bytes behind, none stands but at the last three places
pub none_kept : (xs ys : List ℕ) → NoneBefore (length xs) xs → NoneBefore (length xs - 3) (xs ++ ys)
none_kept xs ys none i l =
    ap begins_empty_line (drop-append-le i xs ys (omega arith)) ∙ same_begin (drop i xs) ys (omega (arith, length-drop i xs)) ∙ none i (omega arith)

-- one byte further
map_some : (o : Option ℕ) (n : ℕ) → option_map (λ m. m + 1) o ≡ Some n → (m : ℕ) × (o ≡ Some m) × (n ≡ m + 1)
map_some None n is = absurd cc
map_some (Some m) n is = (m, refl, cc)

same_number : (a b : ℕ) → Some a ≡ Some b → a ≡ b
same_number a b e = cc

-- what is found lies within
pub found_within : (xs : List ℕ) (n : ℕ) → head_length xs ≡ Some n → (4 ≤ n) × (n ≤ length xs)
found_within [] n is = absurd cc
found_within (b ∷ xs) n is = elim (cases_Bool (begins_empty_line (b ∷ xs))) [
  | inl here ↦ let e : 4 ≡ n = same_number 4 n (sym (stops b xs here) ∙ is) in (omega (arith, e), omega (arith, e, long_enough (b ∷ xs) here))
  | inr elsewhere ↦
      let p = map_some (head_length xs) n (sym (skips b xs elsewhere) ∙ is) in
      let within = found_within xs p.0 p.1 in
      (omega (arith, p.2, within.0), omega (arith, p.2, within.1))
]

-- with more bytes behind, the same is found
pub found_more : (xs ys : List ℕ) (n : ℕ) → head_length xs ≡ Some n → head_length (xs ++ ys) ≡ Some n
found_more [] ys n is = absurd cc
found_more (b ∷ xs) ys n is = elim (cases_Bool (begins_empty_line (b ∷ xs))) [
  | inl here ↦ stops b (xs ++ ys) (same_begin (b ∷ xs) ys (long_enough (b ∷ xs) here) ∙ here) ∙ sym (stops b xs here) ∙ is
  | inr elsewhere ↦
      let p = map_some (head_length xs) n (sym (skips b xs elsewhere) ∙ is) in
      let within = found_within xs p.0 p.1 in
      skips b (xs ++ ys) (same_begin (b ∷ xs) ys (omega (arith, within.0, within.1)) ∙ elsewhere)
      ∙ ap (option_map (λ m. m + 1)) (found_more xs ys p.0 p.1) ∙ ap Some (sym p.2)
]

-- what ends behind a place isn't found before it
found_in_front : (xs : List ℕ) (m p : ℕ) → head_length (take m xs) ≡ Some p → (head_length xs ≡ Some p) × (p ≤ length (take m xs))
found_in_front xs m p is = (ap head_length (sym (take-append-drop m xs)) ∙ found_more (take m xs) (drop m xs) p is, (found_within (take m xs) p is).1)

pub none_shorter : (xs : List ℕ) (m : ℕ) → head_length xs ≡ None → head_length (take m xs) ≡ None
none_shorter xs m is = go (head_length (take m xs)) refl
  where
    go : (o : Option ℕ) → head_length (take m xs) ≡ o → head_length (take m xs) ≡ None
    go None e = e
    go (Some p) e = let q : None ≡ Some p = sym is ∙ (found_in_front xs m p e).0 in absurd cc

pub none_before_end : (xs : List ℕ) (m n : ℕ) → head_length xs ≡ Some n → m < n → m ≤ length xs → head_length (take m xs) ≡ None
none_before_end xs m n is lt le = go (head_length (take m xs)) refl
  where
    go : (o : Option ℕ) → head_length (take m xs) ≡ o → head_length (take m xs) ≡ None
    go None e = e
    go (Some p) e =
        let found = found_in_front xs m p e in
        let same : n ≡ p = same_number n p (sym is ∙ found.0) in
        absurd (omega (arith, same, found.1, length-take-le m xs le, lt))

-- what a search over the bytes that are there says of all that come
pub head_found : (xs ys : List ℕ) (n : ℕ) (h : Head) → head_length xs ≡ Some n → (n ≤ 16384 → h ≡ Found n) → (16384 < n → h ≡ TooLong) → HeadIs h (xs ++ ys)
head_found xs ys n h is found long = elim (cases_lt 16384 n) [
  | inr le ↦ subst (λ (x : Head). HeadIs x (xs ++ ys)) (sym (found le)) (found_more xs ys n is, le)
  | inl lt ↦
      let within = found_within xs n is in
      let all = found_more xs ys n is in
      subst (λ (x : Head). HeadIs x (xs ++ ys)) (sym (long lt))
      (omega (arith, within.1, lt, length-append xs ys), none_before_end (xs ++ ys) 16384 n all lt (omega (arith, within.1, lt, length-append xs ys)))
]

pub head_too_long : (xs ys : List ℕ) → NoneBefore (length xs) xs → 16384 ≤ length xs → HeadIs TooLong (xs ++ ys)
head_too_long xs ys none le = (
  omega (arith, le, length-append xs ys),
  ap head_length (take-append-le 16384 xs ys le)
      ∙ none_shorter xs 16384 (none_found xs none),
)

pub head_cut : (xs stream : List ℕ) → stream ≡ xs → NoneBefore (length xs) xs → (length xs ≡ 0 → ⊥) → length xs < 16384 → HeadIs Cut stream
head_cut xs stream is none some short = record {
  some = λ e. some (ap length (sym is ∙ e));
  short = omega (arith, ap length is, short);
  open_ended = ap head_length is ∙ none_found xs none;
}

-- what is found is found in its own bytes alone
pub found_front : (xs : List ℕ) (n : ℕ) → head_length xs ≡ Some n → head_length (take n xs) ≡ Some n
found_front [] n is = absurd cc
found_front (b ∷ xs) n is = elim (cases_Bool (begins_empty_line (b ∷ xs))) [
  | inl here ↦
      let four : 4 ≡ n = same_number 4 n (sym (stops b xs here) ∙ is) in
      let begins : begins_empty_line (b ∷ take 3 xs) ≡ true = ap (pointwise nat_eq empty_line) (take-take 4 4 (b ∷ xs) (omega arith)) ∙ here in
      subst (λ (k : ℕ). head_length (take k (b ∷ xs)) ≡ Some k) four (stops b (take 3 xs) begins)
  | inr elsewhere ↦
      let p = map_some (head_length xs) n (sym (skips b xs elsewhere) ∙ is) in
      let m = p.0 in
      let within = found_within xs m p.1 in
      let le : 4 ≤ m + 1 = omega (arith, within.0) in
      let not_here : begins_empty_line (b ∷ take m xs) ≡ false = ap (pointwise nat_eq empty_line) (take-take 4 (suc m) (b ∷ xs) (omega (arith, within.0)))
      ∙ elsewhere in
      let one : head_length (b ∷ take m xs) ≡ Some (m + 1) = skips b (take m xs) not_here ∙ ap (option_map (λ k. k + 1)) (found_front xs m p.1) in
      let next : suc m ≡ n = omega (arith, p.2) in
      subst (λ (k : ℕ). head_length (take k (b ∷ xs)) ≡ Some k) next (one ∙ ap Some (omega arith))
]
