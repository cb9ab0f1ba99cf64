-- What is true of each value that a request's reader gives.
use Rattle.std.proofs.Common.{◌≡◌, ◌≤◌, ◌&&◌, nat_le, if◌then◌else◌, ℕ, List, length, Option, Some, None, Bool, true, false, refl, Result, Ok, Err, option_and_then, arith}
use Rattle.std.specs.Str.Parse.{digits_value}
use Rattle.std.proofs.lemmas.Bool.{and_parts}
use Rattle.std.proofs.lemmas.Bool.Decides.{nat_tests}
use Rattle.s3r_http.specs.declared.message.RawRequest.{RawRequest}
use Rattle.s3r_routes.specs.Numbers.{is_decimal, number_named}
use Rattle.s3r_routes.specs.Query.{Pair, value}
use Rattle.s3r_routes.specs.declared.words.Word.{Word}
use Rattle.s3r_desk.specs.declared.request.Request.{Request}
use Rattle.s3r_desk.specs.Steps.{IsRequest}
use Rattle.s3r_api.specs.declared.problem.Problem.{Problem}
use Rattle.s3r_api.specs.Problems.{IsOfRequest}
use Rattle.s3r_api.specs.Faults.{◌>>=◌}
use Rattle.s3r_api.specs.Numbers.{number_from, number_asked}

-- a result whose value has P, or whose reason is one of a framed request
abbrev pub ReadsAs : {X : Type 0} → (X → Type 0) → Result X Problem → Type 0
ReadsAs P (Ok x) = P x
ReadsAs P (Err p) = IsOfRequest p

pub reads-bind : {A B : Type 0} (P : A → Type 0) (Q : B → Type 0) (r : Result A Problem) (f : A → Result B Problem) → ReadsAs P r
    → ((x : A) → P x → ReadsAs Q (f x)) → ReadsAs Q (r >>= f)
reads-bind P Q (Ok x) f h next = next x h
reads-bind P Q (Err p) f h next = h

abbrev pub Any : {X : Type 0} → X → Type 0
Any x = Unit {0}

-- the request is one where the body is no longer than this
abbrev pub Fits : RawRequest → Request → Type 0
Fits raw asked = length raw.body ≤ 4194304 → IsRequest asked

-- a number is at most this one
abbrev pub Below : ℕ → ℕ → Type 0
Below most n = n ≤ most

reads-number : (most : ℕ) (text : List ℕ) → ReadsAs (Below most) (number_from (number_named most text))
reads-number most text = go (is_decimal text && nat_le (digits_value 10 text) most) refl
  where
    low : nat_le (digits_value 10 text) most ≡ true → Below most (digits_value 10 text)
    low is = grind (arith, nat_tests)

    go : (b : Bool) → (is_decimal text && nat_le (digits_value 10 text) most) ≡ b
        → ReadsAs (Below most) (number_from (if b then Some (digits_value 10 text) else None))
    go true is = low (and_parts (is_decimal text) (nat_le (digits_value 10 text) most) is).1
    go false is = tt

reads-number_at : (most : ℕ) (text : Option (List ℕ)) → ReadsAs (Below most) (number_from (option_and_then (number_named most) text))
reads-number_at most None = tt
reads-number_at most (Some text) = reads-number most text

pub reads-number_asked : (most : ℕ) (w : Word) (words : List Pair) → ReadsAs (Below most) (number_asked most w words)
reads-number_asked most w words = reads-number_at most (value w words)
