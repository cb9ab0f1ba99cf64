-- What stands at the front of the bytes that are to come.
use Rattle.std.proofs.Common.{◌≡◌, ◌≢◌, ℕ, ◌+◌, ◌≤◌, List, [], ◌∷◌, ◌++◌, length, take, drop, map, Some, None, refl, sym, ◌∙◌, ap, subst, arith, append_assoc, length-append, take-append-drop}
use Rattle.std.specs.Prelude.{codes}
use Rattle.std.proofs.lemmas.List.{take_at, take-take, take-append-le, length-take-le, drop-drop}
use Rattle.httparse.specs.Grammar.{RequestHead}
use Rattle.httparse.proofs.GrammarLemmas.{request_unique}
use Rattle.s3r_http.specs.declared.message.RawRequest.{RawRequest}
use Rattle.s3r_http.specs.declared.reading.FramedHead.{FramedHead}
use Rattle.s3r_http.specs.Head.{head_length, BeginsTooLong}
use Rattle.s3r_http.specs.Lines.{line_of, is_last, values_of, SayLength}
use Rattle.s3r_http.specs.Request.{IsWholeHead, lines_of, Asks, SpellsRequest, BeginsNone}
use Rattle.s3r_http.specs.Refusals.{BeginsHead, EndsInBody}
use Rattle.s3r_http.specs.FramedHeads.{IsFramedHead, IsRawOf}
use Rattle.s3r_http.proofs.Heads.{found_more, found_front}

same_number : (a b : ℕ) → Some a ≡ Some b → a ≡ b
same_number a b e = cc

-- the values say one length
pub one_length : (values : List (List ℕ)) (m n : ℕ) → SayLength values m → SayLength values n → m ≡ n
one_length [] m n a b = a ∙ sym b
one_length (value ∷ values) m n a b = sym a.2 ∙ b.2

-- bytes are one head
pub one_head : (bytes : List ℕ) (g h : RequestHead) → IsWholeHead bytes g → IsWholeHead bytes h → g ≡ h
one_head bytes g h a b = (request_unique bytes g h [] [] a.0 b.0).0

-- and ask for one length
pub one_body : (bytes : List ℕ) (g h : RequestHead) (m n : ℕ) → Asks bytes g m → Asks bytes h n → m ≡ n
one_body bytes g h m n a b =
    one_length (values_of (codes "content-length") (lines_of h)) m n
    (subst (λ (k : RequestHead). SayLength (values_of (codes "content-length") (lines_of k)) m) (one_head bytes g h a.whole b.whole) a.body.says) b.body.says

-- the first empty line of the bytes ends the head at their front
pub found_in : (stream bytes : List ℕ) → BeginsHead stream bytes → head_length stream ≡ Some (length bytes)
found_in stream bytes begins = ap head_length begins.is ∙ found_more bytes begins.rest (length bytes) begins.ends

-- one head stands at the front of bytes
pub one_front : (stream a b : List ℕ) → BeginsHead stream a → BeginsHead stream b → a ≡ b
one_front stream a b x y =
    let size : length a ≡ length b = same_number _ _ (sym (found_in stream a x) ∙ found_in stream b y) in
    sym (take_at a x.rest (length b) size) ∙ ap (take (length b)) (sym x.is ∙ y.is) ∙ take_at b y.rest (length b) refl

-- a head that is there, before bytes that are still to come
pub front_taken : (buffer input bytes : List ℕ) (n : ℕ) → head_length (buffer ++ input) ≡ Some n → n ≤ 16384 → n ≤ length buffer → bytes ≡ take n buffer
    → BeginsHead (buffer ++ input) bytes
front_taken buffer input bytes n is short within same =
    let size : length bytes ≡ n = ap length same ∙ length-take-le n buffer within in
    record {
      rest = drop n buffer ++ input;
      is = ap (λ (l : List ℕ). l ++ input) (sym (take-append-drop n buffer) ∙ ap (λ (l : List ℕ). l ++ drop n buffer) (sym same))
          ∙ append_assoc bytes (drop n buffer) input;
      ends = ap head_length (same ∙ sym (take-append-le n buffer input within)) ∙ found_front (buffer ++ input) n is ∙ ap Some (sym size);
      short = omega (arith, size, short);
    }

-- the same head in front of more bytes
pub front_later : (stream bytes later : List ℕ) (n : ℕ) → BeginsHead stream bytes → bytes ≡ take n later → BeginsHead later bytes
front_later stream bytes later n begins same = record {
  rest = drop n later;
  is = sym (take-append-drop n later) ∙ ap (λ (l : List ℕ). l ++ drop n later) (sym same);
  ends = begins.ends;
  short = begins.short;
}

module _ (raw : RawRequest) (text rest stream : List ℕ) (spells : SpellsRequest raw text) (begins : stream ≡ text ++ rest) where
  pub regrouped : stream ≡ spells.bytes ++ (raw.body ++ rest)
  regrouped = begins ∙ ap (λ (l : List ℕ). l ++ rest) spells.is ∙ append_assoc spells.bytes raw.body rest

  -- the head of a request stands at the front
  pub head_begins : BeginsHead stream spells.bytes
  head_begins = record { rest = raw.body ++ rest; is = regrouped; ends = spells.ends; short = spells.short }

  -- a request at the front is there as a whole
  pub request_within : length spells.bytes + length raw.body ≤ length stream
  request_within = omega (arith, ap length regrouped, length-append spells.bytes (raw.body ++ rest), length-append raw.body rest)

some_there : (stream bytes : List ℕ) → BeginsHead stream bytes → stream ≢ []
some_there stream bytes begins e =
    let f : None ≡ Some (length bytes) = ap head_length (sym e) ∙ found_in stream bytes begins in
    absurd cc

-- without an end of a head no request is there
pub none_open : (stream : List ℕ) → head_length stream ≡ None → (raw : RawRequest) (text rest : List ℕ) → SpellsRequest raw text → stream ≡ text ++ rest → ⊥
none_open stream none raw text rest spells begins =
    let e : None ≡ Some (length spells.bytes) = sym none ∙ found_in stream spells.bytes (head_begins raw text rest stream spells begins) in
    absurd cc

take_behind : (m : ℕ) (xs ys : List ℕ) → length xs ≤ m → (more : List ℕ) × (take m (xs ++ ys) ≡ xs ++ more)
take_behind m xs ys le =
    let all = take m (xs ++ ys) in
    let front : take (length xs) all ≡ xs = take-take (length xs) m (xs ++ ys) le ∙ take_at xs ys (length xs) refl in
    (drop (length xs) all, sym (take-append-drop (length xs) all) ∙ ap (λ (l : List ℕ). l ++ drop (length xs) all) front)

-- a head ends within its limit
pub not_long : (stream bytes : List ℕ) → BeginsTooLong stream → BeginsHead stream bytes → ⊥
not_long stream bytes long begins =
    let behind = take_behind 16384 bytes begins.rest begins.short in
    let e : None ≡ Some (length bytes) = sym long.1 ∙ ap (λ (l : List ℕ). head_length (take 16384 l)) begins.is ∙ ap head_length behind.1
    ∙ found_more bytes behind.0 _ begins.ends in
    absurd cc

pub none_long : (stream : List ℕ) → BeginsTooLong stream → BeginsNone stream
none_long stream long = (
  (λ e. let le : 16384 ≤ 0 = subst (λ (l : List ℕ). 16384 ≤ length l) e long.0 in absurd (omega (arith, le))),
  λ raw text rest spells begins. not_long stream spells.bytes long (head_begins raw text rest stream spells begins),
)

-- a head at the front that is the head of no request
pub none_asked : (stream bytes : List ℕ) → BeginsHead stream bytes → ((h : RequestHead) (n : ℕ) → Asks bytes h n → ⊥) → BeginsNone stream
none_asked stream bytes front none = (
  some_there stream bytes front,
  λ raw text rest spells begins.
      let same = one_front stream spells.bytes bytes (head_begins raw text rest stream spells begins) front in
      none spells.head (length raw.body) (subst (λ (b : List ℕ). Asks b spells.head (length raw.body)) same spells.asks),
)

-- the bytes end before the body that their head asks for does
pub none_ended : (stream : List ℕ) → EndsInBody stream → BeginsNone stream
none_ended stream cut = (
  some_there stream cut.bytes cut.begins,
  λ raw text rest spells begins.
      let same = one_front stream spells.bytes cut.bytes (head_begins raw text rest stream spells begins) cut.begins in
      let size = one_body cut.bytes spells.head cut.head (length raw.body) cut.body
      (subst (λ (b : List ℕ). Asks b spells.head (length raw.body)) same spells.asks) cut.asks in
      omega (arith, cut.short, size, ap length same, request_within raw text rest stream spells begins),
)

-- the head and the body that were read are a request
pub spells_read : (stream slice : List ℕ) (plan : FramedHead) (content : List ℕ) (raw : RawRequest) → BeginsHead stream slice → IsFramedHead slice plan
    → IsRawOf plan.head content raw → length content ≡ plan.body → SpellsRequest raw (slice ++ raw.body)
spells_read stream slice plan content raw begins planned made size = record {
  head = planned.head;
  bytes = slice;
  ends = begins.ends;
  short = begins.short;
  asks = subst (λ (n : ℕ). Asks slice planned.head n) (sym size ∙ ap length (sym made.body)) planned.asks;
  method = made.method ∙ planned.parts.method;
  target = made.target ∙ planned.parts.target;
  fields = ap (map line_of) made.fields ∙ planned.parts.fields;
  last = made.last ∙ (λ i. is_last (planned.parts.minor i) (planned.parts.fields i));
  is = refl;
}

-- what is left when it has been passed over
pub passed_over : (buffer slice content passed input : List ℕ) (n k : ℕ) → slice ≡ take n buffer → content ≡ take k (drop n buffer)
    → passed ≡ drop (n + k) buffer → buffer ++ input ≡ (slice ++ content) ++ (passed ++ input)
passed_over buffer slice content passed input n k head body is =
    let rest : drop n buffer ≡ content ++ passed = sym (take-append-drop k (drop n buffer)) ∙ ap (λ (l : List ℕ). l ++ drop k (drop n buffer)) (sym body)
    ∙ ap (λ (l : List ℕ). content ++ l) (drop-drop k n buffer ∙ sym is) in
    let all : buffer ≡ slice ++ (content ++ passed) = sym (take-append-drop n buffer) ∙ (λ i. sym head i ++ rest i) in
    ap (λ (l : List ℕ). l ++ input) all ∙ simp append_assoc
