-- The laws of each field.
use Rattle.std.proofs.Common.{◌≡◌, ℕ, zero, suc, ◌^◌, ◌<◌, ◌≤◌, Bool, true, false, cond, nat_le, ltb, List, [], ◌∷◌, ◌++◌, length, take, drop, Ok, Err, refl, sym, ap, subst, ◌∙◌, append_assoc, arith}
use Rattle.std.specs.Int.{Width, w16, w32, w64, byte_len, from_be_bytes, to_be_bytes}
use Rattle.std.specs.Str.{is_utf8}
use Rattle.std.proofs.lemmas.Bool.{ltb-false, le-ltb, leb-true, le-leb}
use Rattle.std.proofs.lemmas.List.{take_at, drop_at, take-append-drop, length-append, length-take}
use Rattle.std.proofs.lemmas.Nat.{be_bytes_2, be_bytes_4, be_bytes_8, from_be_bytes-to_be_bytes_2, from_be_bytes-to_be_bytes_4, from_be_bytes-to_be_bytes_8}
use Rattle.s3r_names.specs.Bucket.{is_bucket_name}
use Rattle.s3r_names.specs.Key.{is_key}
use Rattle.s3r_names.specs.Class.{is_class_name}
use Rattle.s3r_names.proofs.BucketNames.{name_is}
use Rattle.s3r_names.proofs.Keys.{key_is}
use Rattle.s3r_names.proofs.ClassNames.{class_is}
use Rattle.s3r_record.specs.Fields.{sized, text, body, flag}
use Rattle.s3r_record.specs.Reading.{Unread, place, past, number_at, byte_at, flag_at, sized_at, tested_at, is_body}
use Rattle.s3r_record.proofs.ReaderLaws.{IsBytes, IsBytes-drop, IsBytes-take, IsBytes-rest, bind_ok, guard_passed, guard_missed, ok_is, Takes, Takes-then, left, Reads, Reads-as, take_field}

-- ---- numbers

pub record IsWide (w : Width) (limit : ℕ) : Type 0 where
  pub len : (n : ℕ) → length (to_be_bytes w n) ≡ byte_len w
  pub back : (bytes : List ℕ) → length bytes ≡ byte_len w → IsBytes bytes → to_be_bytes w (from_be_bytes w bytes) ≡ bytes
  pub again : (n : ℕ) → n < limit → from_be_bytes w (to_be_bytes w n) ≡ n
  pub below : (bytes : List ℕ) → IsBytes bytes → from_be_bytes w bytes < limit

pub wide16 : IsWide w16 (2 ^ 16)
wide16 = record {
  len = λ n. refl;
  back = λ bytes len fits. be_bytes_2 bytes _ len fits refl;
  again = λ n lt. from_be_bytes-to_be_bytes_2 n lt;
  below = λ bytes fits. omega (arith, fits 0, fits 1);
}

pub wide32 : IsWide w32 (2 ^ 32)
wide32 = record {
  len = λ n. refl;
  back = λ bytes len fits. be_bytes_4 bytes _ len fits refl;
  again = λ n lt. from_be_bytes-to_be_bytes_4 n lt;
  below = λ bytes fits. omega (arith, fits 0, fits 1, fits 2, fits 3);
}

pub wide64 : IsWide w64 (2 ^ 64)
wide64 = record {
  len = λ n. refl;
  back = λ bytes len fits. be_bytes_8 bytes _ len fits refl;
  again = λ n lt. from_be_bytes-to_be_bytes_8 n lt;
  below = λ bytes fits. omega (arith, fits 0, fits 1, fits 2, fits 3, fits 4, fits 5, fits 6, fits 7);
}

number_takes : (w : Width) (limit : ℕ) (wide : IsWide w limit) (u : Unread) (x : ℕ × Unread) → IsBytes u.bytes → number_at w u ≡ Ok x
    → Takes u.bytes (to_be_bytes w x.0) x.1.bytes × (x.0 < limit)
number_takes w limit wide u x fits e =
    let g = guard_missed (ltb (length u.bytes) (byte_len w)) (place u) (from_be_bytes w (take (byte_len w) u.bytes), past (byte_len w) u) x e in
    let long : byte_len w ≤ length u.bytes = ltb-false _ _ g.0 in
    let front : to_be_bytes w (from_be_bytes w (take (byte_len w) u.bytes)) ≡ take (byte_len w) u.bytes =
    wide.back (take (byte_len w) u.bytes) (omega (arith, length-take (byte_len w) u.bytes)) (IsBytes-take (byte_len w) u.bytes fits) in
    subst (λ (y : ℕ × Unread). Takes u.bytes (to_be_bytes w y.0) y.1.bytes × (y.0 < limit)) g.1 (
      record { parts = rw front (sym (take-append-drop (byte_len w) u.bytes)); rest_fits = IsBytes-drop (byte_len w) u.bytes fits },
      wide.below (take (byte_len w) u.bytes) (IsBytes-take (byte_len w) u.bytes fits),
    )

number_again : (w : Width) (limit : ℕ) (wide : IsWide w limit) (whole n : ℕ) (rest : List ℕ) → n < limit
    → number_at w (left whole (to_be_bytes w n ++ rest)) ≡ Ok (n, left whole rest)
number_again w limit wide whole n rest lt =
    let len = wide.len n in
    let long : ltb (length (to_be_bytes w n ++ rest)) (byte_len w) ≡ false = le-ltb _ _ (omega (arith, length-append (to_be_bytes w n) rest)) in
    rw (long, take_at (to_be_bytes w n) rest (byte_len w) len, drop_at (to_be_bytes w n) rest (byte_len w) len, wide.again n lt) refl

pub number_law : (w : Width) (limit : ℕ) → IsWide w limit → Reads (number_at w) (to_be_bytes w) (λ n. n < limit)
number_law w limit wide = record { takes = number_takes w limit wide; again = number_again w limit wide }

-- ---- bytes of a few values

-- a byte that was read, and where it stood
pub record IsFirst (most : ℕ) (u : Unread) (x : ℕ × Unread) : Type 0 where
  pub parts : u.bytes ≡ x.0 ∷ x.1.bytes
  pub few : x.0 ≤ most

byte_read : (most whole : ℕ) (bytes : List ℕ) (x : ℕ × Unread) → byte_at most (left whole bytes) ≡ Ok x → IsFirst most (left whole bytes) x
unfolding byte_at
byte_read most whole [] x e = absurd cc
byte_read most whole (byte ∷ bytes) x e =
    let read = bind_ok (cond (nat_le byte most) (Ok (byte, bytes)) (Err (place (left whole (byte ∷ bytes))))) (λ read. Ok (read.0, left whole read.1)) x e in
    let g = guard_passed (nat_le byte most) (place (left whole (byte ∷ bytes))) (byte, bytes) read.0 read.1 in
    let same : (read.0.0, left whole read.0.1) ≡ x = ok_is (read.0.0, left whole read.0.1) x read.2 in
    subst (IsFirst most (left whole (byte ∷ bytes))) (ap (λ (r : ℕ × List ℕ). (r.0, left whole r.1)) g.1 ∙ same)
    (record { parts = refl; few = leb-true byte most g.0 })

pub byte_is : (most : ℕ) (u : Unread) (x : ℕ × Unread) → byte_at most u ≡ Ok x → IsFirst most u x
byte_is most u x e = byte_read most u.whole u.bytes x e

byte_takes : (most : ℕ) (u : Unread) (x : ℕ × Unread) → IsBytes u.bytes → byte_at most u ≡ Ok x → Takes u.bytes (x.0 ∷ []) x.1.bytes × (x.0 ≤ most)
byte_takes most u x fits e =
    let first = byte_is most u x e in
    (record { parts = first.parts; rest_fits = IsBytes-rest x.0 x.1.bytes (subst IsBytes first.parts fits) }, first.few)

byte_again : (most whole byte : ℕ) (rest : List ℕ) → byte ≤ most → byte_at most (left whole ((byte ∷ []) ++ rest)) ≡ Ok (byte, left whole rest)
unfolding byte_at
byte_again most whole byte rest few = rw (le-leb byte most few) refl

pub byte_law : (most : ℕ) → Reads (byte_at most) (λ byte. byte ∷ []) (λ byte. byte ≤ most)
byte_law most = record { takes = byte_takes most; again = byte_again most }

-- ---- flags

flag_takes : (whole : ℕ) (bytes : List ℕ) (x : Bool × Unread) → IsBytes bytes → flag_at (left whole bytes) ≡ Ok x → Takes bytes (flag x.0) x.1.bytes × Unit {0}
unfolding flag_at
flag_takes whole [] x fits e = absurd cc
flag_takes whole (zero ∷ bytes) x fits e =
    subst (λ (y : Bool × Unread). Takes (0 ∷ bytes) (flag y.0) y.1.bytes
    × Unit {0}) (ok_is (false, left whole bytes) x e) (record { parts = refl; rest_fits = IsBytes-rest 0 bytes fits }, tt)
flag_takes whole (suc zero ∷ bytes) x fits e =
    subst (λ (y : Bool × Unread). Takes (1 ∷ bytes) (flag y.0) y.1.bytes
    × Unit {0}) (ok_is (true, left whole bytes) x e) (record { parts = refl; rest_fits = IsBytes-rest 1 bytes fits }, tt)
flag_takes whole (suc (suc b) ∷ bytes) x fits e = absurd cc

flag_again : (whole : ℕ) (x : Bool) (rest : List ℕ) → Unit {0} → flag_at (left whole (flag x ++ rest)) ≡ Ok (x, left whole rest)
unfolding flag_at
flag_again whole true rest h = refl
flag_again whole false rest h = refl

pub flag_law : Reads flag_at flag (λ _. Unit {0})
flag_law = record { takes = λ u x fits e. flag_takes u.whole u.bytes x fits e; again = flag_again }

-- ---- a length, and that many bytes

sized_takes : (w : Width) (limit : ℕ) → IsWide w limit → (u : Unread) (x : List ℕ × Unread) → IsBytes u.bytes → sized_at w u ≡ Ok x
    → Takes u.bytes (sized w x.0) x.1.bytes × (length x.0 < limit)
unfolding sized_at
sized_takes w limit wide u x fits e =
    let n = take_field (number_law w limit wide) (λ len. cond (ltb (length len.1.bytes) len.0) (Err (place u))
    (Ok (take len.0 len.1.bytes, past len.0 len.1))) u x fits e in
    let g = guard_missed (ltb (length n.rest.bytes) n.value) (place u) (take n.value n.rest.bytes, past n.value n.rest) x n.gave in
    let long : n.value ≤ length n.rest.bytes = ltb-false _ _ g.0 in
    let len : length (take n.value n.rest.bytes) ≡ n.value = omega (arith, length-take n.value n.rest.bytes) in
    let second : Takes n.rest.bytes (take n.value n.rest.bytes) (drop n.value n.rest.bytes) =
    record { parts = sym (take-append-drop n.value n.rest.bytes); rest_fits = IsBytes-drop n.value n.rest.bytes n.takes.rest_fits } in
    let both = Takes-then u.bytes (to_be_bytes w n.value) n.rest.bytes (take n.value n.rest.bytes) (drop n.value n.rest.bytes) n.takes second in
    let whole : Takes u.bytes (sized w (take n.value n.rest.bytes)) (drop n.value n.rest.bytes) =
    subst (λ (k : ℕ). Takes u.bytes (to_be_bytes w k ++ take n.value n.rest.bytes) (drop n.value n.rest.bytes)) (sym len) both in
    subst (λ (p : List ℕ × Unread). Takes u.bytes (sized w p.0) p.1.bytes × (length p.0 < limit)) g.1 (whole, omega (arith, n.fits))

sized_again : (w : Width) (limit : ℕ) → IsWide w limit → (whole : ℕ) (bytes rest : List ℕ) → length bytes < limit
    → sized_at w (left whole (sized w bytes ++ rest)) ≡ Ok (bytes, left whole rest)
unfolding sized_at
sized_again w limit wide whole bytes rest lt =
    let long : ltb (length (bytes ++ rest)) (length bytes) ≡ false = le-ltb _ _ (omega (arith, length-append bytes rest)) in
    ap (λ (all : List ℕ). sized_at w (left whole all)) (append_assoc (to_be_bytes w (length bytes)) bytes rest)
    ∙ rw (
      number_again w limit wide whole (length bytes) (bytes ++ rest) lt,
      long,
      take_at bytes rest (length bytes) refl,
      drop_at bytes rest (length bytes) refl,
    ) refl

pub sized_law : (w : Width) (limit : ℕ) → IsWide w limit → Reads (sized_at w) (sized w) (λ bytes. length bytes < limit)
sized_law w limit wide = record { takes = sized_takes w limit wide; again = sized_again w limit wide }

-- ---- such bytes that pass a test

-- the test of a field takes no more bytes than the width of its length counts
abbrev pub IsShortTest : (List ℕ → Bool) → ℕ → Type 0
IsShortTest test limit = (bytes : List ℕ) → test bytes ≡ true → length bytes < limit

pub tested_passes : (w : Width) (test : List ℕ → Bool) (u : Unread) (x : List ℕ × Unread) → tested_at w test u ≡ Ok x → test x.0 ≡ true
unfolding tested_at
tested_passes w test u x e =
    let read = bind_ok (sized_at w u) (λ read. cond (test read.0) (Ok read) (Err (place u))) x e in
    let g = guard_passed (test read.0.0) (place u) read.0 x read.2 in
    subst (λ (y : List ℕ × Unread). test y.0 ≡ true) g.1 g.0

-- such bytes, and few enough for the width of their length
abbrev pub Tested : (List ℕ → Bool) → ℕ → List ℕ → Type 0
Tested test limit bytes = (test bytes ≡ true) × (length bytes < limit)

tested_takes : (w : Width) (limit : ℕ) → IsWide w limit → (test : List ℕ → Bool) (u : Unread) (x : List ℕ × Unread) → IsBytes u.bytes
    → tested_at w test u ≡ Ok x → Takes u.bytes (sized w x.0) x.1.bytes × Tested test limit x.0
unfolding tested_at
tested_takes w limit wide test u x fits e =
    let t = take_field (sized_law w limit wide) (λ read. cond (test read.0) (Ok read) (Err (place u))) u x fits e in
    let g = guard_passed (test t.value) (place u) (t.value, t.rest) x t.gave in
    subst (λ (y : List ℕ × Unread). Takes u.bytes (sized w y.0) y.1.bytes × Tested test limit y.0) g.1 (t.takes, (g.0, t.fits))

tested_again : (w : Width) (limit : ℕ) → IsWide w limit → (test : List ℕ → Bool)
    → (whole : ℕ) (bytes rest : List ℕ) → Tested test limit bytes → tested_at w test (left whole (sized w bytes ++ rest)) ≡ Ok (bytes, left whole rest)
unfolding tested_at
tested_again w limit wide test whole bytes rest passed = rw (sized_again w limit wide whole bytes rest passed.1, passed.0) refl

tested_law : (w : Width) (limit : ℕ) → IsWide w limit → (test : List ℕ → Bool) → Reads (tested_at w test) (sized w) (Tested test limit)
tested_law w limit wide test = record { takes = tested_takes w limit wide test; again = tested_again w limit wide test }

short_law : (w : Width) (limit : ℕ) → IsWide w limit → (test : List ℕ → Bool) → IsShortTest test limit
    → Reads (tested_at w test) (sized w) (λ bytes. test bytes ≡ true)
short_law w limit wide test short = Reads-as (tested_law w limit wide test) (λ bytes tested. tested.0) (λ bytes passed. (passed, short bytes passed))

pub text_law : (test : List ℕ → Bool) → Reads (tested_at w16 test) text (Tested test (2 ^ 16))
text_law test = tested_law w16 (2 ^ 16) wide16 test

pub short_text_law : (test : List ℕ → Bool) → IsShortTest test (2 ^ 16) → Reads (tested_at w16 test) text (λ bytes. test bytes ≡ true)
short_text_law test short = short_law w16 (2 ^ 16) wide16 test short

-- any text
abbrev pub IsText : List ℕ → Type 0
IsText bytes = Tested is_utf8 (2 ^ 16) bytes

pub any_text_law : Reads (tested_at w16 is_utf8) text IsText
any_text_law = text_law is_utf8

pub bucket_name_law : Reads (tested_at w16 is_bucket_name) text (λ name. is_bucket_name name ≡ true)
bucket_name_law = short_text_law is_bucket_name (λ name named. let s = (name_is name named).short in omega arith)

pub key_law : Reads (tested_at w16 is_key) text (λ key. is_key key ≡ true)
key_law = short_text_law is_key (λ key named. let s = (key_is key named).short in omega arith)

pub class_law : Reads (tested_at w16 is_class_name) text (λ class. is_class_name class ≡ true)
class_law = short_text_law is_class_name (λ class named. let s = (class_is class named).short in omega arith)

pub body_law : (most : ℕ) → most < 2 ^ 32 → Reads (tested_at w32 (is_body most)) body (λ bytes. length bytes ≤ most)
body_law most low =
    Reads-as (short_law w32 (2 ^ 32) wide32 (is_body most) (λ bytes short. let s = leb-true (length bytes) most short in omega arith))
    (λ bytes short. leb-true (length bytes) most short) (λ bytes few. le-leb (length bytes) most few)
