-- One request stands at the front of bytes.
use Rattle.std.proofs.Common.{◌≡◌, ◌≢◌, ℕ, List, [], ◌∷◌, ◌++◌, length, take, map, refl, sym, ◌∙◌, ap, subst}
use Rattle.std.proofs.lemmas.List.{take_at, append_cancel_left, append-nil}
use Rattle.httparse.specs.Grammar.{RequestHead}
use Rattle.s3r_http.specs.declared.message.RawRequest.{RawRequest}
use Rattle.s3r_http.specs.declared.message.Field.{Field}
use Rattle.s3r_http.specs.Lines.{Line, line_of, is_last}
use Rattle.s3r_http.specs.Request.{lines_of, Asks, SpellsRequest}
use Rattle.s3r_http.proofs.Framing.{one_head, one_body, one_front, regrouped, head_begins, none_open}

field_of : Line → Field
field_of line = record { name = line.0; value = line.1 }

fields_back : (fields : List Field) → map field_of (map line_of fields) ≡ fields
unfolding field_of
fields_back [] = refl
fields_back (field ∷ fields) = ap (λ (l : List Field). field ∷ l) (fields_back fields)

same_fields : (xs ys : List Field) → map line_of xs ≡ map line_of ys → xs ≡ ys
same_fields xs ys same = sym (fields_back xs) ∙ ap (map field_of) same ∙ fields_back ys

pub same_parts : (raw other : RawRequest) → raw.method ≡ other.method → raw.target ≡ other.target → raw.fields ≡ other.fields → raw.body ≡ other.body
    → raw.last ≡ other.last → raw ≡ other
same_parts raw other method target fields body last =
    λ i. record { method = method i; target = target i; fields = fields i; body = body i; last = last i }

pub one : (raw other : RawRequest) (text text' rest rest' : List ℕ) → SpellsRequest raw text → SpellsRequest other text' → text ++ rest ≡ text' ++ rest'
    → (raw ≡ other) × (text ≡ text')
one raw other text text' rest rest' a b same =
    let stream = text ++ rest in
    let bytes : a.bytes ≡ b.bytes = one_front stream a.bytes b.bytes (head_begins raw text rest stream a refl) (head_begins other text' rest' stream b same) in
    let asks : Asks b.bytes a.head (length raw.body) = subst (λ (l : List ℕ). Asks l a.head (length raw.body)) bytes a.asks in
    let head : a.head ≡ b.head = one_head b.bytes a.head b.head asks.whole b.asks.whole in
    let size : length raw.body ≡ length other.body = one_body b.bytes a.head b.head (length raw.body) (length other.body) asks b.asks in
    let behind : raw.body ++ rest ≡ other.body ++ rest' =
    append_cancel_left b.bytes (raw.body ++ rest) (other.body ++ rest')
    (ap (λ (l : List ℕ). l ++ (raw.body ++ rest)) (sym bytes) ∙ sym (regrouped raw text rest stream a refl) ∙ regrouped other text' rest' stream b same) in
    let body : raw.body ≡ other.body =
    sym (take_at raw.body rest (length other.body) size) ∙ ap (take (length other.body)) behind ∙ take_at other.body rest' (length other.body) refl in
    let lines : lines_of a.head ≡ lines_of b.head = ap lines_of head in (
      same_parts raw other
          (a.method ∙ ap (λ (h : RequestHead). h.method) head ∙ sym b.method)
          (a.target ∙ ap (λ (h : RequestHead). h.target) head ∙ sym b.target)
          (same_fields raw.fields other.fields (a.fields ∙ lines ∙ sym b.fields))
          body
          (a.last ∙ ap (λ (h : RequestHead). is_last h.minor (lines_of h)) head ∙ sym b.last),
      a.is ∙ (λ i. bytes i ++ body i) ∙ sym b.is,
    )

-- the text of a request has bytes
pub some_text : (raw : RawRequest) (text : List ℕ) → SpellsRequest raw text → text ≢ []
some_text raw text spells e = none_open [] refl raw text [] spells (sym e ∙ sym (append-nil text))
