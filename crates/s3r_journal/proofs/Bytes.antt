-- What a write behind the closed gate and a write of the gate leave.
use Rattle.std.proofs.Common.{◌≡◌, ℕ, ◌+◌, ◌<◌, ◌≤◌, List, [], ◌∷◌, ◌++◌, length, take, drop, get_or, inl, inr, sym, ◌∙◌, ap, arith, append_assoc, length-append, take-append-drop}
use Rattle.std.proofs.lemmas.Bool.{cases_eq}
use Rattle.std.proofs.lemmas.List.{append-nil, take_at, drop_at, drop_more, length-take-le}
use Rattle.std.specs.Int.{to_be_bytes, w32}
use Rattle.s3r_world.specs.Image.{Holds, Torn}
use Rattle.s3r_journal.specs.Volume.{header, frame_of, records, AreShort, StandsTo}
use Rattle.s3r_journal.specs.Append.{Appends, MayAppend}

-- a front and a gate, cut apart
module _ (front : List ℕ) (gate : ℕ) (rest : List ℕ) (end : ℕ) (place : length front ≡ end) where
  with_gate : length (front ++ gate ∷ []) ≡ end + 1
  with_gate = omega (arith, length-append front (gate ∷ []), place)

  long : length (front ++ gate ∷ rest) ≡ end + 1 + length rest
  long = omega (arith, length-append front (gate ∷ rest), place)

  pub front_is : take end (front ++ gate ∷ rest) ≡ front
  front_is = take_at front (gate ∷ rest) end place

  pub past_is : take (end + 1) (front ++ gate ∷ rest) ≡ front ++ gate ∷ []
  past_is = ap (take (end + 1)) (sym (append_assoc front (gate ∷ []) rest)) ∙ take_at (front ++ gate ∷ []) rest (end + 1) with_gate

  pub rest_is : drop (end + 1) (front ++ gate ∷ rest) ≡ rest
  rest_is = ap (drop (end + 1)) (sym (append_assoc front (gate ∷ []) rest)) ∙ drop_at (front ++ gate ∷ []) rest (end + 1) with_gate

  -- a torn write behind the gate
  pub torn_behind : (n : ℕ) (a b : List ℕ) → a ≡ front ++ gate ∷ rest → Torn (end + 1) n a b → b ≡ front ++ gate ∷ drop (end + 1) b
  torn_behind n a b is torn =
      let begins : take (end + 1) b ≡ front ++ gate ∷ [] = torn.before ∙ ap (take (end + 1)) is ∙ past_is in
      sym (take-append-drop (end + 1) b) ∙ ap (λ (l : List ℕ). l ++ drop (end + 1) b) begins ∙ append_assoc front (gate ∷ []) (drop (end + 1) b)

  -- a write behind the gate
  pub held_behind : (frame a b : List ℕ) → a ≡ front ++ gate ∷ rest → Holds (end + 1) frame a b → b ≡ front ++ gate ∷ (frame ++ drop (end + 1 + length frame) a)
  held_behind frame a b is holds =
      let tail = drop (end + 1 + length frame) a in
      holds ∙ ap (λ (l : List ℕ). l ++ frame ++ tail) (ap (take (end + 1)) is ∙ past_is)
      ∙ append_assoc (front ++ gate ∷ []) frame tail ∙ append_assoc front (gate ∷ []) (frame ++ tail)

  -- a torn write of the gate
  pub torn_gate : (a b : List ℕ) → a ≡ front ++ gate ∷ rest → Torn end 1 a b → b ≡ front ++ get_or b end 0 ∷ rest
  torn_gate a b is torn =
      let begins : take end b ≡ front = torn.before ∙ ap (take end) is ∙ front_is in
      let ends : drop (end + 1) b ≡ rest = torn.after ∙ ap (drop (end + 1)) is ∙ rest_is in
      let within : end < length b = omega (arith, torn.no_shorter, ap length is, long) in
      sym (take-append-drop end b) ∙ ap (λ (l : List ℕ). l ++ drop end b) begins
      ∙ ap (λ (l : List ℕ). front ++ l) (drop_more b end 0 within ∙ ap (λ (l : List ℕ). get_or b end 0 ∷ l) ends)

  -- a write of the gate
  pub held_gate : (a b : List ℕ) → a ≡ front ++ gate ∷ rest → Holds end (1 ∷ []) a b → b ≡ front ++ 1 ∷ rest
  held_gate a b is holds =
      holds ∙ ap (λ (l : List ℕ). l ++ (1 ∷ []) ++ drop (end + 1) a) (ap (take end) is ∙ front_is)
      ∙ ap (λ (l : List ℕ). front ++ (1 ∷ []) ++ l) (ap (drop (end + 1)) is ∙ rest_is) ∙ append_assoc front (1 ∷ []) rest

pub held_long : (at : ℕ) (bytes a b : List ℕ) → Holds at bytes a b → at ≤ length a → at + length bytes ≤ length b
held_long at bytes a b holds le =
    omega (arith, ap length holds, length-append (take at a ++ bytes) (drop (at + length bytes) a), length-append (take at a) bytes, length-take-le at a le)

pub records-push : (h : List (List ℕ)) (s : List ℕ) → records (h ++ s ∷ []) ≡ records h ++ (1 ∷ to_be_bytes w32 (length s) ++ s)
records-push [] s = append-nil (1 ∷ to_be_bytes w32 (length s) ++ s)
records-push (x ∷ h) s =
    ap (λ (l : List ℕ). (1 ∷ to_be_bytes w32 (length x) ++ x) ++ l) (records-push h s)
    ∙ sym (append_assoc (1 ∷ to_be_bytes w32 (length x) ++ x) (records h) (1 ∷ to_be_bytes w32 (length s) ++ s))

pub short-push : (h : List (List ℕ)) (s : List ℕ) → AreShort h → length s ≤ 16777216 → AreShort (h ++ s ∷ [])
short-push [] s short le = (le, tt)
short-push (x ∷ h) s short le = (short.0, short-push h s short.1 le)

-- behind an open gate the frame is a record more
pub stands_more : (region format end : ℕ) (h : List (List ℕ)) (s tail b : List ℕ) → length (header region format ++ records h) ≡ end →
    AreShort h → length s ≤ 16777216 → b ≡ (header region format ++ records h) ++ 1 ∷ (frame_of s ++ tail) →
    StandsTo region format (h ++ s ∷ []) (end + length s + 5) b
stands_more region format end h s tail b place short le is =
    let four = to_be_bytes w32 (length s) in
    let more = 1 ∷ four ++ s in
    let all : header region format ++ records (h ++ s ∷ []) ≡ (header region format ++ records h) ++ more =
    ap (λ (l : List ℕ). header region format ++ l) (records-push h s) ∙ sym (append_assoc (header region format) (records h) more) in
    record {
      gate = 0;
      rest = tail;
      closed = omega arith;
      whole = is ∙ ap (λ (l : List ℕ). (header region format ++ records h) ++ 1 ∷ l) (append_assoc (four ++ s) (0 ∷ []) tail)
          ∙ sym (append_assoc (header region format ++ records h) more (0 ∷ tail)) ∙ ap (λ (l : List ℕ). l ++ 0 ∷ tail) (sym all);
      place = ap length all ∙ length-append (header region format ++ records h) more ∙ omega (arith, place, length-append four s);
      short = short-push h s short le;
    }

-- the closed gate stands in each outcome of the first write
pub keeps_behind : (end n : ℕ) (s a b : List ℕ) → Torn (end + 1) n a b → MayAppend end s a b
keeps_behind end n s a b torn region format h stands = inl (record {
  gate = stands.gate;
  rest = drop (end + 1) b;
  closed = stands.closed;
  whole = torn_behind (header region format ++ records h) stands.gate stands.rest end stands.place n a b stands.whole torn;
  place = stands.place;
  short = stands.short;
})

module _ (end : ℕ) (s : List ℕ) (le : length s ≤ 16777216) where
  -- the gate opens or it doesn't
  pub may_open : (a m b : List ℕ) → Holds (end + 1) (frame_of s) a m → Torn end 1 m b → MayAppend end s a b
  may_open a m b holds torn region format h stands =
      let front = header region format ++ records h in
      let tail = drop (end + 1 + length (frame_of s)) a in
      let staged = held_behind front stands.gate stands.rest end stands.place (frame_of s) a m stands.whole holds in
      let is = torn_gate front stands.gate (frame_of s ++ tail) end stands.place m b staged torn in
      elim (cases_eq (get_or b end 0) 1) [
        | inl open_gate ↦
            inr (stands_more region format end h s tail b stands.place stands.short le (is ∙ ap (λ (g : ℕ). front ++ g ∷ (frame_of s ++ tail)) open_gate))
        | inr shut ↦ inl (record { gate = get_or b end 0; rest = frame_of s ++ tail; closed = shut; whole = is; place = stands.place; short = stands.short })
      ]

  pub opens : (a m b : List ℕ) → Holds (end + 1) (frame_of s) a m → Holds end (1 ∷ []) m b → Appends end s a b
  opens a m b holds gate region format h stands =
      let front = header region format ++ records h in
      let tail = drop (end + 1 + length (frame_of s)) a in
      let staged = held_behind front stands.gate stands.rest end stands.place (frame_of s) a m stands.whole holds in
      stands_more region format end h s tail b stands.place stands.short le (held_gate front stands.gate (frame_of s ++ tail) end stands.place m b staged gate)
