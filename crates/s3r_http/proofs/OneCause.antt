-- Bytes give one cause of a refusal.
use Rattle.std.proofs.Common.{◌≡◌, ◌⊎◌, ℕ, ◌<◌, ◌≤◌, true, false, List, length, Some, None, refl, inl, inr, sym, ◌∙◌, subst, arith}
use Rattle.std.specs.Prelude.{codes}
use Rattle.httparse.specs.Grammar.{RequestHead}
use Rattle.s3r_http.specs.declared.message.HttpFault.{HttpFault}
use Rattle.s3r_http.specs.declared.message.HttpFault.TheVariants.{BadHead, HeadTooLong, BadLength, EntityTooLarge, NotImplemented, CutShort, Input, OutOfMemory}
use Rattle.s3r_http.specs.Head.{BeginsTooLong, EndsInHead}
use Rattle.s3r_http.specs.Lines.{Line, has_line, values_of, SayLength}
use Rattle.s3r_http.specs.Request.{IsWholeHead, lines_of}
use Rattle.s3r_http.specs.Refusals.{BeginsHead, IsRefusal, IsCause}
use Rattle.s3r_http.proofs.Framing.{one_length, one_head, one_front, found_in, not_long}

-- A cause, by the questions in the order in which they are asked: the size of the body, ..
abbrev SizeCause : HttpFault → ℕ → Type 0
SizeCause f n = ((f ≡ EntityTooLarge) × (4194304 < n)) ⊎ ((f ≡ CutShort) × (n ≤ 4194304))

-- .. what the lines say of it, ..
abbrev LengthCause : HttpFault → List (List ℕ) → Type 0
LengthCause f values = ((f ≡ BadLength) × ((n : ℕ) → SayLength values n → ⊥)) ⊎ ((n : ℕ) × SayLength values n × SizeCause f n)

-- .. a Transfer-Encoding, ..
abbrev LineCause : HttpFault → List Line → Type 0
LineCause f lines = ((f ≡ NotImplemented) × (has_line (codes "transfer-encoding") lines ≡ true))
    ⊎ ((has_line (codes "transfer-encoding") lines ≡ false) × LengthCause f (values_of (codes "content-length") lines))

-- .. the head's form, ..
abbrev FormCause : HttpFault → List ℕ → Type 0
FormCause f bytes = ((f ≡ BadHead) × ((h : RequestHead) → IsWholeHead bytes h → ⊥)) ⊎ ((h : RequestHead) × IsWholeHead bytes h × LineCause f (lines_of h))

-- .. and first of all its end.
abbrev EndCause : HttpFault → List ℕ → Type 0
EndCause f stream = ((f ≡ HeadTooLong) × BeginsTooLong stream) ⊎ (((f ≡ CutShort) × EndsInHead stream)
    ⊎ ((bytes : List ℕ) × BeginsHead stream bytes × FormCause f bytes))

one_size : (f g : HttpFault) (n : ℕ) → SizeCause f n → SizeCause g n → f ≡ g
one_size f g n (inl a) (inl b) = a.0 ∙ sym b.0
one_size f g n (inl a) (inr b) = absurd (omega (arith, a.1, b.1))
one_size f g n (inr a) (inl b) = absurd (omega (arith, a.1, b.1))
one_size f g n (inr a) (inr b) = a.0 ∙ sym b.0

one_said : (f g : HttpFault) (values : List (List ℕ)) → LengthCause f values → LengthCause g values → f ≡ g
one_said f g values (inl a) (inl b) = a.0 ∙ sym b.0
one_said f g values (inl a) (inr b) = absurd (a.1 b.0 b.1)
one_said f g values (inr a) (inl b) = absurd (b.1 a.0 a.1)
one_said f g values (inr a) (inr b) = one_size f g b.0 (subst (SizeCause f) (one_length values a.0 b.0 a.1 b.1) a.2) b.2

one_line : (f g : HttpFault) (lines : List Line) → LineCause f lines → LineCause g lines → f ≡ g
one_line f g lines (inl a) (inl b) = a.0 ∙ sym b.0
one_line f g lines (inl a) (inr b) = let e : true ≡ false = sym a.1 ∙ b.0 in absurd cc
one_line f g lines (inr a) (inl b) = let e : true ≡ false = sym b.1 ∙ a.0 in absurd cc
one_line f g lines (inr a) (inr b) = one_said f g (values_of (codes "content-length") lines) a.1 b.1

one_form : (f g : HttpFault) (bytes : List ℕ) → FormCause f bytes → FormCause g bytes → f ≡ g
one_form f g bytes (inl a) (inl b) = a.0 ∙ sym b.0
one_form f g bytes (inl a) (inr b) = absurd (a.1 b.0 b.1)
one_form f g bytes (inr a) (inl b) = absurd (b.1 a.0 a.1)
one_form f g bytes (inr a) (inr b) =
    one_line f g (lines_of b.0) (subst (λ (h : RequestHead). LineCause f (lines_of h)) (one_head bytes a.0 b.0 a.1 b.1) a.2) b.2

open_head : (stream bytes : List ℕ) → EndsInHead stream → BeginsHead stream bytes → ⊥
open_head stream bytes cut begins = let e : None ≡ Some (length bytes) = sym cut.open_ended ∙ found_in stream bytes begins in absurd cc

one_end : (f g : HttpFault) (stream : List ℕ) → EndCause f stream → EndCause g stream → f ≡ g
one_end f g stream (inl a) (inl b) = a.0 ∙ sym b.0
one_end f g stream (inl a) (inr (inl b)) = absurd (omega (arith, a.1.0, b.1.short))
one_end f g stream (inl a) (inr (inr b)) = absurd (not_long stream b.0 a.1 b.1)
one_end f g stream (inr (inl a)) (inl b) = absurd (omega (arith, b.1.0, a.1.short))
one_end f g stream (inr (inl a)) (inr (inl b)) = a.0 ∙ sym b.0
one_end f g stream (inr (inl a)) (inr (inr b)) = absurd (open_head stream b.0 a.1 b.1)
one_end f g stream (inr (inr a)) (inl b) = absurd (not_long stream a.0 b.1 a.1)
one_end f g stream (inr (inr a)) (inr (inl b)) = absurd (open_head stream a.0 b.1 a.1)
one_end f g stream (inr (inr a)) (inr (inr b)) =
    one_form f g b.0 (subst (FormCause f) (one_front stream a.0 b.0 a.1 b.1) a.2) b.2

by_questions : (f : HttpFault) (stream : List ℕ) → IsRefusal f → IsCause f stream → EndCause f stream
by_questions Input stream real c = absurd real
by_questions OutOfMemory stream real c = absurd real
by_questions HeadTooLong stream real c = inl (refl, c)
by_questions CutShort stream real (inl c) = inr (inl (refl, c))
by_questions CutShort stream real (inr c) =
    inr (inr (c.bytes, c.begins, inr (c.head, c.asks.whole, inr (c.asks.body.plain, inr (c.body, c.asks.body.says, inr (refl, c.asks.body.small))))))
by_questions BadHead stream real c = inr (inr (c.0, c.1, inl (refl, c.2)))
by_questions NotImplemented stream real c = inr (inr (c.0, c.1, inr (c.2.0, c.2.1, inl (refl, c.2.2))))
by_questions BadLength stream real c = inr (inr (c.0, c.1, inr (c.2.0, c.2.1, inr (c.2.2.0, inl (refl, c.2.2.1)))))
by_questions EntityTooLarge stream real c =
    inr (inr (c.0, c.1, inr (c.2.0, c.2.1, inr (c.2.2.0, inr (c.2.2.1, c.2.2.2, inl (refl, c.2.2.3))))))

pub one_cause : (f g : HttpFault) (stream : List ℕ) → IsRefusal f → IsRefusal g → IsCause f stream → IsCause g stream → f ≡ g
one_cause f g stream p q a b = one_end f g stream (by_questions f stream p a) (by_questions g stream q b)
