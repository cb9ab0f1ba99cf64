-- What the parser's answers say of a head that is all of the bytes.
use Rattle.std.proofs.Common.{◌≡◌, ◌<◌, ℕ, List, [], length, drop, arith, ap, sym, ◌∙◌, subst}
use Rattle.std.proofs.lemmas.List.{append-nil, length-map}
use Rattle.httparse.specs.declared.borrowed.Request.{Request}
use Rattle.httparse.specs.Grammar.{RequestHead, ReadsRequest, print_request}
use Rattle.httparse.specs.Spans.{RequestOverflows, name_and_value}
use Rattle.httparse.specs.Borrowed.{HoldsSomeRequest, header_parts}
use Rattle.httparse.proofs.GrammarLemmas.{request_unique}
use Rattle.s3r_http.specs.Request.{IsWholeHead}

-- a head at the front that isn't all of the bytes: no head is
pub not_all : (bytes : List ℕ) (len : ℕ) (r : Request) → HoldsSomeRequest bytes r len → (len ≡ length bytes → ⊥) → (h : RequestHead) → IsWholeHead bytes h → ⊥
not_all bytes len r held other h whole =
    let same = request_unique bytes held.0 h (drop len bytes) [] held.1.reads whole.0 in
    let long : length bytes ≡ length (print_request h) = ap length (whole.0.1 ∙ append-nil _) in
    other (held.1.len_is ∙ ap (λ k. length (print_request k)) same.0 ∙ sym long)

-- a head of more lines than there may be: none of at most 64 is
pub too_many : (bytes : List ℕ) (len : ℕ) (r : Request) → HoldsSomeRequest bytes r len → 64 < length r.headers.now → (h : RequestHead) → IsWholeHead bytes h → ⊥
too_many bytes len r held more h whole =
    let same = request_unique bytes held.0 h (drop len bytes) [] held.1.reads whole.0 in
    let lines : length r.headers.now ≡ length held.0.fields =
    sym (length-map r.headers.now header_parts) ∙ ap length held.1.fields ∙ length-map held.0.fields name_and_value in
    let fields = ap (λ k. length k.fields) same.0 in
    let few = whole.1 in
    omega (arith, lines, fields, few, more)

-- what overflows the room has no head that fits
pub overflows : (bytes : List ℕ) → RequestOverflows 64 bytes → (h : RequestHead) → IsWholeHead bytes h → ⊥
overflows bytes over h whole =
    let P : List ℕ → Type 0 = λ b. ReadsRequest b h [] in
    let more = over [] h [] (subst P (sym (append-nil bytes)) whole.0) in
    let few = whole.1 in
    omega (arith, more, few)
