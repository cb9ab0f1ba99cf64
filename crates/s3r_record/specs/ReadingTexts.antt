-- Reading texts that need not be there, or need not meet a rule.
use Rattle.std.specs.Prelude.{ℕ, Bool, true, false, List, Option, Some, None, Result, Ok, if◌then◌else◌}
use Rattle.std.specs.Int.{w16}
use Rattle.std.specs.Str.{is_utf8}
use Rattle.s3r_record.specs.Reading.{◌>>=◌, Unread, flag_at, tested_at}

-- a value, if it passes the test
abbrev pub passed : {A : Type 0} → (A → Bool) → A → Option A
passed test x = if test x then Some x else None

abbrev pub text_if : Bool → Unread → Result (Option (List ℕ) × Unread) ℕ
text_if false left = Ok (None, left)
text_if true left = do
  text ← tested_at w16 is_utf8 left
  Ok (Some text.0, text.1)

-- a flag, and a text where it is set
unfoldable pub option_text_at : Unread → Result (Option (List ℕ) × Unread) ℕ
option_text_at left = do
  given ← flag_at left
  text_if given.0 given.1
