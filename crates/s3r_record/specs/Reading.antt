-- Reading fields from left to right. The fault is the place of the first field that is wrong.
use Rattle.std.specs.Prelude.{◌≡◌, ℕ, zero, suc, ◌-◌, Bool, true, false, List, [], ◌∷◌, length, take, drop, Result, Ok, Err, nat_lt, nat_le, if◌then◌else◌}
use Rattle.std.specs.Int.{Width, byte_len, from_be_bytes}
use Rattle.s3r_record.specs.declared.fault.RecordFault.{RecordFault}
use Rattle.s3r_record.specs.declared.fault.RecordFault.TheVariants as faults
use Rattle.s3r_record.specs.declared.reading.Rest.{Rest}

-- the bytes that are left of a spelling of `whole` bytes
pub record Unread : Type 0 where
  pub whole : ℕ
  pub bytes : List ℕ

abbrev pub unread : Rest → Unread
unread rest = record { whole = rest.whole; bytes = rest.bytes.now }

-- where they begin
abbrev pub place : Unread → ℕ
place left = left.whole - length left.bytes

-- without the first `n` of them
abbrev pub past : ℕ → Unread → Unread
past n left = record { whole = left.whole; bytes = drop n left.bytes }

infixl 10 ◌>>=◌
abbrev pub ◌>>=◌ : {A B : Type 0} → Result A ℕ → (A → Result B ℕ) → Result B ℕ
(Ok x) >>= f = f x
(Err place) >>= f = Err place

-- What a function returned, seen by view, is what reading gives, unless memory ran out.
abbrev pub Fails : {Y : Type 0} → RecordFault → Result Y ℕ → Type 0
Fails faults.OutOfMemory read = Unit {0}
Fails (faults.NotACommand place) read = read ≡ Err place

abbrev pub Gives : {X Y : Type 0} → (X → Y) → Result X RecordFault → Result Y ℕ → Type 0
Gives view (Ok x) read = read ≡ Ok (view x)
Gives view (Err fault) read = Fails fault read

-- A field is a value and what is left behind it.
abbrev pub number_at : Width → Unread → Result (ℕ × Unread) ℕ
number_at w left = if nat_lt (length left.bytes) (byte_len w) then Err (place left) else Ok
    (from_be_bytes w (take (byte_len w) left.bytes), past (byte_len w) left)

-- the first byte, if it is at most that
abbrev pub byte_of : ℕ → List ℕ → ℕ → Result (ℕ × List ℕ) ℕ
byte_of most [] at = Err at
byte_of most (byte ∷ bytes) at = if nat_le byte most then Ok (byte, bytes) else Err at

unfoldable pub byte_at : ℕ → Unread → Result (ℕ × Unread) ℕ
byte_at most left = do
  byte ← byte_of most left.bytes (place left)
  Ok (byte.0, record { whole = left.whole; bytes = byte.1 })

-- the flag's byte, if it is 0 or 1
abbrev pub flag_of : List ℕ → ℕ → Result (Bool × List ℕ) ℕ
flag_of [] at = Err at
flag_of (zero ∷ bytes) at = Ok (false, bytes)
flag_of (suc zero ∷ bytes) at = Ok (true, bytes)
flag_of (suc (suc byte) ∷ bytes) at = Err at

unfoldable pub flag_at : Unread → Result (Bool × Unread) ℕ
flag_at left = do
  value ← flag_of left.bytes (place left)
  Ok (value.0, record { whole = left.whole; bytes = value.1 })

-- the next `len` bytes, of a field that begins at the place
abbrev pub bytes_at : ℕ → ℕ → Unread → Result (List ℕ × Unread) ℕ
bytes_at at len left = if nat_lt (length left.bytes) len then Err at else Ok (take len left.bytes, past len left)

-- a length that passes the end makes the whole field wrong
unfoldable pub sized_at : Width → Unread → Result (List ℕ × Unread) ℕ
sized_at w left = do
  len ← number_at w left
  bytes_at (place left) len.0 len.1

-- such bytes that pass the test
unfoldable pub tested_at : Width → (List ℕ → Bool) → Unread → Result (List ℕ × Unread) ℕ
tested_at w test left = do
  bytes ← sized_at w left
  if test bytes.0 then Ok bytes else Err (place left)

-- a body has at most so many bytes
abbrev pub is_body : ℕ → List ℕ → Bool
is_body most bytes = nat_le (length bytes) most
