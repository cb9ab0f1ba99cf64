-- The one id that bytes may be the text of.
use Rattle.std.proofs.Common.{◌≡◌, ℕ, zero, suc, ◌+◌, ◌-◌, ◌*◌, ◌/◌, ◌%◌, ◌^◌, ◌<◌, ◌≤◌, Bool, true, false, ◌&&◌, nat_le, List, [], ◌∷◌, Option, Some, None, refl, sym, ap, ◌∙◌, arith, Result, Ok, Err, IfOk, if◌then◌else◌}
use Rattle.std.specs.Str.{bytes_eq}
use Rattle.std.proofs.Math.Nat.{pow-suc}
use Rattle.std.proofs.lemmas.Bool.{and_parts}
use Rattle.std.proofs.lemmas.Bool.Decides.{nat_tests}
use Rattle.std.proofs.lemmas.List.Sums.{fold-append}
use Rattle.std.proofs.lemmas.Slice.Eq.{bytes_eq-Decides}
use Rattle.s3r_names.specs.declared.version.VersionId.{VersionId}
use Rattle.s3r_names.specs.Version.{IsVersionId, hex_digit, hex_digits, hex_value, version_text}
use Rattle.s3r_routes.specs.declared.fault.RouteFault.{RouteFault}
use Rattle.s3r_routes.specs.declared.fault.RouteFault.TheVariants.{InvalidVersionId}
use Rattle.s3r_routes.specs.Names.{or_zero, hex_number, id_like, may_be, version_named}

digit-back : (value : ℕ) → value < 16 → hex_value (hex_digit value) ≡ Some value
digit-back value lt = grind (arith, nat_tests)

fewer : (p power n : ℕ) → power ≡ p * 16 → n < power → n / 16 < p
fewer p power n e lt = omega arith

whole : (n : ℕ) → n / 16 * 16 + n % 16 ≡ n
whole n = omega arith

-- the digits of a number spell it
number-back : (count n : ℕ) → n < 16 ^ count → hex_number (hex_digits count n) ≡ n
unfolding hex_digits
number-back zero n lt = let none : n ≡ 0 = omega arith in sym none
number-back (suc count) n lt =
    let digit : n % 16 < 16 = omega arith in
    let high = number-back count (n / 16) (fewer (16 ^ count) (16 ^ suc count) n (pow-suc 16 count) lt) in
    fold-append (λ (m d : ℕ). m * 16 + or_zero (hex_value d)) 0 (hex_digits count (n / 16)) (hex_digit (n % 16) ∷ [])
    ∙ ap (λ (m : ℕ). m * 16 + or_zero (hex_value (hex_digit (n % 16)))) high
    ∙ ap (λ (v : Option ℕ). n / 16 * 16 + or_zero v) (digit-back (n % 16) digit)
    ∙ whole n

like-back : (id : VersionId) → IsVersionId id → id_like (version_text id) ≡ id
like-back id is =
    let region : (id.region + 48) - 48 ≡ id.region = omega arith in
    let index = number-back 16 id.index (omega (arith, is.below)) in
    (λ i. record { region = region i; index = index i })

may-is : (id : VersionId) → IsVersionId id → may_be id ≡ true
may-is id is = go is.region is.above is.below
  where
    go : id.region ≤ 7 → 1 ≤ id.index → id.index < 2 ^ 64 → may_be id ≡ true
    go region above below = grind (arith, nat_tests)

is-may : (id : VersionId) → may_be id ≡ true → IsVersionId id
is-may id h =
    let a = and_parts (nat_le id.region 7 && nat_le 1 id.index) (nat_le id.index 18446744073709551615) h in
    let b = and_parts (nat_le id.region 7) (nat_le 1 id.index) a.0 in
    record { region = grind (arith, nat_tests); above = grind (arith, nat_tests); below = grind (arith, nat_tests) }

-- whether the bytes are the text of this id
abbrev told : List ℕ → VersionId → Result VersionId RouteFault
told text id = if may_be id && bytes_eq text (version_text id) then Ok id else Err InvalidVersionId

told-own : (id : VersionId) → IsVersionId id → told (version_text id) id ≡ Ok id
told-own id is = rw (may-is id is, (bytes_eq-Decides (version_text id) (version_text id)).1 refl) refl

pub named : (text : List ℕ) (id : VersionId) → IsVersionId id → text ≡ version_text id → version_named text ≡ Ok id
named text id is e = ap version_named e ∙ ap (told (version_text id)) (like-back id is) ∙ told-own id is

pub none-named : (text : List ℕ) (found : Option VersionId) → found ≡ None → ((id : VersionId) → IsVersionId id → text ≡ version_text id → found ≡ Some id)
    → version_named text ≡ Err InvalidVersionId
none-named text found none only = go (may_be (id_like text) && bytes_eq text (version_text (id_like text))) refl
  where
    go : (b : Bool) → (may_be (id_like text) && bytes_eq text (version_text (id_like text))) ≡ b
        → (if b then Ok (id_like text) else Err InvalidVersionId) ≡ Err InvalidVersionId
    go false e = refl
    go true e =
        let parts = and_parts (may_be (id_like text)) (bytes_eq text (version_text (id_like text))) e in
        let some = only (id_like text) (is-may (id_like text) parts.0) ((bytes_eq-Decides text (version_text (id_like text))).0 parts.1) in
        let wrong : None ≡ Some (id_like text) = sym none ∙ some in
        absurd (cc wrong)

-- an id that is named meets its rule
pub named-is : (text : List ℕ) → IfOk (version_named text) IsVersionId
named-is text = go (may_be (id_like text) && bytes_eq text (version_text (id_like text))) refl
  where
    go : (b : Bool) → (may_be (id_like text) && bytes_eq text (version_text (id_like text))) ≡ b
        → IfOk {T = VersionId} {E = RouteFault} (if b then Ok (id_like text) else Err InvalidVersionId) IsVersionId
    go true e = is-may (id_like text) (and_parts (may_be (id_like text)) (bytes_eq text (version_text (id_like text))) e).0
    go false e = tt
