-- What follows from the cause of a refusal.
use Rattle.std.proofs.Common.{◌≡◌, ◌≢◌, ◌⊎◌, ℕ, true, false, List, refl, sym, ◌∙◌, subst, inl, inr, ⊎_elim, arith}
use Rattle.std.specs.Prelude.{codes}
use Rattle.httparse.specs.Grammar.{RequestHead}
use Rattle.s3r_http.specs.declared.message.HttpFault.{HttpFault}
use Rattle.s3r_http.specs.declared.message.HttpFault.TheVariants.{BadHead, HeadTooLong, BadLength, EntityTooLarge, NotImplemented, CutShort, Input, OutOfMemory}
use Rattle.s3r_http.specs.Lines.{Line, values_of}
use Rattle.s3r_http.specs.Request.{IsWholeHead, lines_of, AsksBody, Asks, BeginsNone}
use Rattle.s3r_http.specs.Refusals.{BeginsHead, LinesCause, HeadCause, IsCause}
use Rattle.s3r_http.proofs.Framing.{one_head, one_length, none_open, none_long, none_asked, none_ended}

-- no body follows lines for which there is a cause
no_body : (fault : HttpFault) (lines : List Line) (n : ℕ) → fault ≢ OutOfMemory → LinesCause fault lines → AsksBody lines n → ⊥
no_body NotImplemented lines n other cause asks = let e : true ≡ false = sym cause ∙ asks.plain in absurd cc
no_body BadLength lines n other cause asks = cause.1 n asks.says
no_body EntityTooLarge lines n other cause asks =
    omega (arith, one_length (values_of (codes "content-length") lines) cause.1 n cause.2 asks.says, cause.3, asks.small)
no_body OutOfMemory lines n other cause asks = other refl
no_body BadHead lines n other cause asks = cause
no_body HeadTooLong lines n other cause asks = cause
no_body CutShort lines n other cause asks = cause
no_body Input lines n other cause asks = cause

-- no request has such a head
no_request : (fault : HttpFault) (bytes : List ℕ) (h g : RequestHead) (n : ℕ) → fault ≢ OutOfMemory → IsWholeHead bytes g → LinesCause fault (lines_of g)
    → Asks bytes h n → ⊥
no_request fault bytes h g n other whole cause asks =
    no_body fault (lines_of h) n other (subst (λ (k : RequestHead). LinesCause fault (lines_of k)) (one_head bytes g h whole asks.whole) cause) asks.body

-- the lines of a head as a cause
pub head_cause : (fault : HttpFault) (bytes : List ℕ) (h : RequestHead) (lines : List Line) → IsWholeHead bytes h → lines ≡ lines_of h
    → LinesCause fault lines → HeadCause fault bytes
head_cause NotImplemented bytes h lines whole same cause = (h, whole, subst (LinesCause NotImplemented) same cause)
head_cause BadLength bytes h lines whole same cause = (h, whole, subst (LinesCause BadLength) same cause)
head_cause EntityTooLarge bytes h lines whole same cause = (h, whole, subst (LinesCause EntityTooLarge) same cause)
head_cause OutOfMemory bytes h lines whole same cause = tt
head_cause BadHead bytes h lines whole same cause = absurd cause
head_cause HeadTooLong bytes h lines whole same cause = absurd cause
head_cause CutShort bytes h lines whole same cause = absurd cause
head_cause Input bytes h lines whole same cause = absurd cause

-- the head at the front as a cause
pub front_cause : (fault : HttpFault) (stream bytes : List ℕ) → BeginsHead stream bytes → HeadCause fault bytes → IsCause fault stream
front_cause NotImplemented stream bytes begins cause = (bytes, begins, cause)
front_cause BadLength stream bytes begins cause = (bytes, begins, cause)
front_cause EntityTooLarge stream bytes begins cause = (bytes, begins, cause)
front_cause BadHead stream bytes begins cause = (bytes, begins, cause)
front_cause OutOfMemory stream bytes begins cause = tt
front_cause HeadTooLong stream bytes begins cause = absurd cause.2
front_cause CutShort stream bytes begins cause = absurd cause.2
front_cause Input stream bytes begins cause = tt

-- where there is a cause, no request stands at the front
pub cause_none : (fault : HttpFault) (stream : List ℕ) → IsCause fault stream → (fault ≡ Input) ⊎ ((fault ≡ OutOfMemory) ⊎ BeginsNone stream)
cause_none Input stream cause = inl refl
cause_none OutOfMemory stream cause = inr (inl refl)
cause_none HeadTooLong stream cause = inr (inr (none_long stream cause))
cause_none CutShort stream cause =
    inr (inr (⊎_elim (λ cut. (cut.some, none_open stream cut.open_ended)) (λ cut. none_ended stream cut) cause))
cause_none BadHead stream cause = inr (inr (none_asked stream cause.0 cause.1 (λ h n asks. cause.2 h asks.whole)))
cause_none NotImplemented stream cause =
    inr (inr (none_asked stream cause.0 cause.1 (λ h n asks. no_request NotImplemented cause.0 h cause.2.0 n (λ e. absurd cc) cause.2.1 cause.2.2 asks)))
cause_none BadLength stream cause =
    inr (inr (none_asked stream cause.0 cause.1 (λ h n asks. no_request BadLength cause.0 h cause.2.0 n (λ e. absurd cc) cause.2.1 cause.2.2 asks)))
cause_none EntityTooLarge stream cause =
    inr (inr (none_asked stream cause.0 cause.1 (λ h n asks. no_request EntityTooLarge cause.0 h cause.2.0 n (λ e. absurd cc) cause.2.1 cause.2.2 asks)))
