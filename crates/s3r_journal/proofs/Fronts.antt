-- The records that have been read, and the histories that bytes stand for.
use Rattle.std.proofs.Common.{◌≡◌, ◌≢◌, ℕ, ◌+◌, ◌<◌, ◌≤◌, List, [], ◌∷◌, ◌++◌, length, take, drop, get_or, not, nat_lt, ◌==◌, All, refl, inl, inr, sym, ◌∙◌, ap, subst, arith, append_assoc, length-append, length-drop, take-append-drop}
use Rattle.std.proofs.lemmas.Bool.{cases_eq, cases_lt, cases_Bool, cond-true, or_parts, ltb-false, eqb-true, not-false}
use Rattle.std.proofs.lemmas.List.Elements.{All-take, All-drop}
use Rattle.std.proofs.lemmas.List.{append-nil, take_at, drop_at, drop_more, drop-drop, length-take-le, get_or_past}
use Rattle.std.proofs.lemmas.Nat.{from_be_bytes-to_be_bytes_4, be_bytes_4}
use Rattle.std.specs.Int.{to_be_bytes, from_be_bytes, w32}
use Rattle.s3r_journal.specs.Volume.{label, header, records, AreShort, Front, StandsTo, IsEmptyVolume, is_empty_volume, format_of, Stands}
use Rattle.s3r_journal.specs.Scan.{Finding, no_header, damaged_at, end_at, one_record, found_in, first_in, finding, ScansTo}
use Rattle.s3r_journal.specs.Laws.{OneHistory, OneEnd, StandingScans, ScanningStands, FrontBegins}
use Rattle.s3r_journal.proofs.Bytes.{records-push, short-push}
use Rattle.s3r_journal.proofs.Finds.{record_tells, found_closed, found_record, by_label, cases_label, not_empty, first_right, first_wrong, finds_first, finds_later}

-- ---- two lists of records with the same bytes

peel : (s t x y : List ℕ) → length s ≤ 16777216 → length t ≤ 16777216 → 1 ∷ to_be_bytes w32 (length s) ++ s ++ x ≡ 1 ∷ to_be_bytes w32 (length t) ++ t ++ y
    → (s ≡ t) × (x ≡ y)
peel s t x y short short' is =
    let four : to_be_bytes w32 (length s) ≡ to_be_bytes w32 (length t) = ap (λ (l : List ℕ). take 4 (drop 1 l)) is in
    let same : length s ≡ length t =
    sym (from_be_bytes-to_be_bytes_4 (length s) (omega (arith, short))) ∙ ap (from_be_bytes w32) four
    ∙ from_be_bytes-to_be_bytes_4 (length t) (omega (arith, short')) in
    let tails : s ++ x ≡ t ++ y = ap (drop 5) is in (
      sym (take_at s x (length s) refl) ∙ ap (take (length s)) tails ∙ take_at t y (length s) (sym same),
      sym (drop_at s x (length s) refl) ∙ ap (drop (length s)) tails ∙ drop_at t y (length s) (sym same),
    )

-- the records of a history that ends at a closed gate begin with those that have been read
pub meets : (h k : List (List ℕ)) (x rest : List ℕ) (gate : ℕ) → AreShort h → AreShort k → gate ≢ 1 → records h ++ x ≡ records k ++ gate ∷ rest →
    (ss : List (List ℕ)) × (k ≡ h ++ ss) × AreShort ss × (x ≡ records ss ++ gate ∷ rest)
meets [] k x rest gate short short' closed is = (k, refl, short', is)
meets (s ∷ h) [] x rest gate short short' closed is = absurd (closed (sym (ap (λ (l : List ℕ). get_or l 0 0) is)))
meets (s ∷ h) (t ∷ k) x rest gate short short' closed is =
    let both = peel s t (records h ++ x) (records k ++ gate ∷ rest) short.0 short'.0
    (sym (append_assoc (1 ∷ to_be_bytes w32 (length s) ++ s) (records h) x) ∙ is
    ∙ append_assoc (1 ∷ to_be_bytes w32 (length t) ++ t) (records k) (gate ∷ rest)) in
    let more = meets h k x rest gate short.1 short'.1 closed both.1 in
    (more.0, cc, more.2, more.3)

-- ---- what has been read, and the bytes behind it

module _ (region at : ℕ) (h : List (List ℕ)) (bytes : List ℕ) (front : Front region h at bytes) where
  pub front_rest : drop at bytes ≡ front.rest
  front_rest = ap (drop at) front.whole ∙ drop_at (header region front.format ++ records h) front.rest at front.place

  front_bytes : bytes ≡ 1 ∷ label region ++ front.format ∷ (records h ++ front.rest)
  front_bytes = front.whole ∙ append_assoc (header region front.format) (records h) front.rest

  pub front_long : 16 ≤ length bytes
  front_long = omega (arith, ap length front_bytes)

  pub front_open : get_or bytes 0 0 ≡ 1
  front_open = ap (λ (l : List ℕ). get_or l 0 0) front_bytes

  pub front_label : take 14 (drop 1 bytes) ≡ label region
  front_label = ap (λ (l : List ℕ). take 14 (drop 1 l)) front_bytes

  pub front_behind : drop 16 bytes ≡ records h ++ front.rest
  front_behind = ap (drop 16) front_bytes

  pub front_format : format_of bytes ≡ front.format
  front_format = ap (λ (l : List ℕ). get_or l 15 0) front_bytes

  pub front_not_empty : IsEmptyVolume bytes → ⊥
  front_not_empty empty = not_empty region bytes front_long front_open empty

  -- a scan finds what the bytes behind it begin with
  pub front_finds : finding region at bytes ≡ found_in at front.rest
  front_finds = elim (cases_eq at 16) [
    | inl first ↦
        finds_first region at bytes first ∙ first_right region bytes front_long front_open front_label ∙ ap (λ (n : ℕ). found_in n (drop n bytes)) (sym first)
        ∙ ap (found_in at) front_rest
    | inr later ↦ finds_later region at bytes later ∙ ap (found_in at) front_rest
  ]

-- the header alone has been read
pub header_read : (region : ℕ) (bytes : List ℕ) → 16 ≤ length bytes → get_or bytes 0 0 ≡ 1 → take 14 (drop 1 bytes) ≡ label region → Front region [] 16 bytes
header_read region bytes long is_open right = record {
  format = get_or bytes 15 0;
  rest = drop 16 bytes;
  whole =
      let last : drop 14 (drop 1 bytes) ≡ get_or bytes 15 0 ∷ drop 16 bytes = drop-drop 14 1 bytes ∙ drop_more bytes 15 0 (omega (arith, long)) in
      drop_more bytes 0 0 (omega (arith, long)) ∙ ap (λ (g : ℕ). g ∷ drop 1 bytes) is_open
      ∙ ap (λ (l : List ℕ). 1 ∷ l) (sym (take-append-drop 14 (drop 1 bytes)) ∙ ap (λ (l : List ℕ). l ++ drop 14 (drop 1 bytes)) right
      ∙ ap (λ (l : List ℕ). label region ++ l) last);
  place = refl;
  short = tt;
}

-- one record more
pub front_more : (region at : ℕ) (h : List (List ℕ)) (bytes : List ℕ) (front : Front region h at bytes) (s behind : List ℕ) → length s ≤ 16777216
    → front.rest ≡ 1 ∷ to_be_bytes w32 (length s) ++ s ++ behind →
    Front region (h ++ s ∷ []) (at + 5 + length s) bytes
front_more region at h bytes front s behind short is =
    let more = 1 ∷ to_be_bytes w32 (length s) ++ s in
    let before = header region front.format ++ records h in
    let all : header region front.format ++ records (h ++ s ∷ []) ≡ before ++ more =
    ap (λ (l : List ℕ). header region front.format ++ l) (records-push h s) ∙ sym (append_assoc (header region front.format) (records h) more) in
    record {
      format = front.format;
      rest = behind;
      whole = front.whole ∙ ap (λ (l : List ℕ). before ++ l) is ∙ sym (append_assoc before more behind) ∙ ap (λ (l : List ℕ). l ++ behind) (sym all);
      place = ap length all ∙ length-append before more ∙ omega (arith, front.place, length-append (to_be_bytes w32 (length s)) s);
      short = short-push h s front.short short;
    }

-- the end
pub front_ends : (region at : ℕ) (h : List (List ℕ)) (bytes : List ℕ) (front : Front region h at bytes) (gate : ℕ) (behind : List ℕ) → gate ≢ 1 →
    front.rest ≡ gate ∷ behind → StandsTo region front.format h at bytes
front_ends region at h bytes front gate behind closed is = record {
  gate = gate;
  rest = behind;
  closed = closed;
  whole = front.whole ∙ ap (λ (l : List ℕ). (header region front.format ++ records h) ++ l) is;
  place = front.place;
  short = front.short;
}

-- what stands for a history has been read to its end
abbrev pub front_of : (region format e : ℕ) (h : List (List ℕ)) (bytes : List ℕ) → StandsTo region format h e bytes → Front region h e bytes
front_of region format e h bytes stands = record {
  format = format;
  rest = stands.gate ∷ stands.rest;
  whole = stands.whole;
  place = stands.place;
  short = stands.short;
}

-- ---- histories

module _ (region at : ℕ) (h : List (List ℕ)) (bytes : List ℕ) (front : Front region h at bytes) where
  -- the rest holds the rest of the history
  pub front_meets : (k : List (List ℕ)) (format e : ℕ) (stands : StandsTo region format k e bytes) →
      (ss : List (List ℕ)) × (k ≡ h ++ ss) × AreShort ss × (front.rest ≡ records ss ++ stands.gate ∷ stands.rest)
  front_meets k format e stands =
      meets h k front.rest stands.rest stands.gate front.short stands.short stands.closed
      (sym (front_behind region at h bytes front) ∙ front_behind region e k bytes (front_of region format e k bytes stands))

  pub begins : (k : List (List ℕ)) → Stands region k bytes → (ss : List (List ℕ)) × (k ≡ h ++ ss)
  begins k (inl empty) = absurd (front_not_empty region at h bytes front empty.0)
  begins k (inr stands) = let all = front_meets k stands.1 stands.0 stands.2 in (all.0, all.1)

  rest_found : (ss : List (List ℕ)) (gate : ℕ) (rest : List ℕ) → AreShort ss → gate ≢ 1 → front.rest ≡ records ss ++ gate ∷ rest → (offset : ℕ)
      → found_in at front.rest ≡ damaged_at offset → ⊥
  rest_found [] gate rest short closed is offset damaged =
      let ends : found_in at front.rest ≡ end_at at = ap (found_in at) is ∙ found_closed at gate rest closed in
      cc
  rest_found (s ∷ ss) gate rest short closed is offset damaged =
      let one : found_in at front.rest ≡ one_record s (at + 5 + length s) =
      ap (found_in at) (is ∙ append_assoc (1 ∷ to_be_bytes w32 (length s) ++ s) (records ss) (gate ∷ rest))
      ∙ found_record at s (records ss ++ gate ∷ rest) short.0 in
      cc

  -- behind what has been read is no damage where the bytes stand for a history
  pub refutes : (offset : ℕ) → found_in at front.rest ≡ damaged_at offset → (k : List (List ℕ)) → Stands region k bytes → ⊥
  refutes offset damaged k (inl empty) = front_not_empty region at h bytes front empty.0
  refutes offset damaged k (inr stands) =
      let all = front_meets k stands.1 stands.0 stands.2 in
      rest_found all.0 stands.2.gate stands.2.rest all.2 stands.2.closed all.3 offset damaged

-- another header stands for nothing
pub wrong_header : (region : ℕ) (bytes : List ℕ) → 16 ≤ length bytes → get_or bytes 0 0 ≡ 1 → take 14 (drop 1 bytes) ≢ label region → (k : List (List ℕ))
    → Stands region k bytes → ⊥
wrong_header region bytes long is_open wrong k (inl empty) = not_empty region bytes long is_open empty.0
wrong_header region bytes long is_open wrong k (inr stands) = wrong (front_label region stands.0 k bytes (front_of region stands.1 stands.0 k bytes stands.2))

no_more : (ss : List (List ℕ)) (g gate : ℕ) (r rest : List ℕ) → g ≢ 1 → g ∷ r ≡ records ss ++ gate ∷ rest → ss ≡ []
no_more [] g gate r rest closed is = refl
no_more (s ∷ ss) g gate r rest closed is = absurd (closed (ap (λ (l : List ℕ). get_or l 0 0) is))

pub one_end : OneEnd
one_end region format other bytes h k e f first second =
    let all = front_meets region e h bytes (front_of region format e h bytes first) k other f second in
    let none : all.0 ≡ [] = no_more all.0 first.gate second.gate first.rest second.rest first.closed all.3 in
    let same : h ≡ k = sym (append-nil h) ∙ ap (λ (ss : List (List ℕ)). h ++ ss) (sym none) ∙ sym all.1 in (
      same,
      sym first.place ∙ ap (λ (x : List (List ℕ)). length (header region format ++ records x)) same ∙ second.place,
      sym (front_format region e h bytes (front_of region format e h bytes first)) ∙ front_format region f k bytes (front_of region other f k bytes second),
    )

pub one_history : OneHistory
one_history region bytes h k (inl first) (inl second) = first.1 ∙ sym second.1
one_history region bytes h k (inl first) (inr second) =
    absurd (front_not_empty region second.0 k bytes (front_of region second.1 second.0 k bytes second.2) first.0)
one_history region bytes h k (inr first) (inl second) =
    absurd (front_not_empty region first.0 h bytes (front_of region first.1 first.0 h bytes first.2) second.0)
one_history region bytes h k (inr first) (inr second) = (one_end region first.1 second.1 bytes h k first.0 second.0 first.2 second.2).0

pub front_begins : FrontBegins
front_begins region bytes h k at front stands = begins region at h bytes front k stands

-- ---- scans in turn

module _ (region : ℕ) (bytes : List ℕ) where
  -- the records that are left, from what has been read on
  scans_on : (ss h : List (List ℕ)) (at e gate : ℕ) (rest : List ℕ) (front : Front region h at bytes) → AreShort ss → gate ≢ 1
      → front.rest ≡ records ss ++ gate ∷ rest → at + length (records ss) ≡ e → ScansTo region ss e at bytes
  unfolding front_more
  scans_on [] h at e gate rest front short closed is ends =
      front_finds region at h bytes front ∙ ap (found_in at) is ∙ found_closed at gate rest closed ∙ ap end_at (omega (arith, ends))
  scans_on (s ∷ ss) h at e gate rest front short closed is ends =
      let behind = records ss ++ gate ∷ rest in
      let split : front.rest ≡ 1 ∷ to_be_bytes w32 (length s) ++ s ++ behind =
      is ∙ append_assoc (1 ∷ to_be_bytes w32 (length s) ++ s) (records ss) (gate ∷ rest) in (
        front_finds region at h bytes front ∙ ap (found_in at) split ∙ found_record at s behind short.0,
        scans_on ss (h ++ s ∷ []) (at + 5 + length s) e gate rest (front_more region at h bytes front s behind short.0 split) short.1 closed refl
            (omega (arith, ends, length-append s (records ss))),
      )

  stands_scan : (format : ℕ) (h : List (List ℕ)) (e : ℕ) → StandsTo region format h e bytes → ScansTo region h e 16 bytes
  unfolding header_read
  stands_scan format h e stands =
      let front = front_of region format e h bytes stands in
      let read = header_read region bytes (front_long region e h bytes front) (front_open region e h bytes front) (front_label region e h bytes front) in
      scans_on h [] 16 e stands.gate stands.rest read stands.short stands.closed (front_behind region e h bytes front)
      (sym (length-append (header region format) (records h)) ∙ stands.place)

pub standing_scans : StandingScans
standing_scans region format bytes h e stands = stands_scan region bytes format h e stands

-- ---- what is found stands there

-- a closed gate is found where one stands
pub closed_there : (at e : ℕ) (rest : List ℕ) → found_in at rest ≡ end_at e → (gate : ℕ) × (behind : List ℕ) × (gate ≢ 1) × (rest ≡ gate ∷ behind) × (at ≡ e)
closed_there at e [] found = cc
closed_there at e (gate ∷ behind) found = elim (cases_eq gate 1) [
  | inl is_open ↦
      let at_open : found_in at (1 ∷ behind) ≡ end_at e = subst (λ (g : ℕ). found_in at (g ∷ behind) ≡ end_at e) is_open found in
      elim (record_tells at (from_be_bytes w32 (take 4 behind)) behind) [ inl whole ↦ let w = whole.2 in cc | inr damaged ↦ cc ]
  | inr closed ↦ let ends = found_closed at gate behind closed in (gate, behind, closed, refl, cc)
]

byte_at : (xs : List ℕ) → All (λ b. b < 256) xs → (i : ℕ) → get_or xs i 0 < 256
byte_at xs all i = elim (cases_lt i (length xs)) [ inl within ↦ all i 0 within | inr past ↦ omega (arith, get_or_past xs i 0 past) ]

-- a record is found where one stands whole
record_there : (at next : ℕ) (s rest : List ℕ) → All (λ b. b < 256) rest → found_in at rest ≡ one_record s next →
    (behind : List ℕ) × (length s ≤ 16777216) × (next ≡ at + 5 + length s) × (rest ≡ 1 ∷ to_be_bytes w32 (length s) ++ s ++ behind)
record_there at next s [] all found = cc
record_there at next s (gate ∷ behind) all found = elim (cases_eq gate 1) [
  | inl is_open ↦
      let n = from_be_bytes w32 (take 4 behind) in
      let at_open : found_in at (1 ∷ behind) ≡ one_record s next = subst (λ (g : ℕ). found_in at (g ∷ behind) ≡ one_record s next) is_open found in
      elim (record_tells at n behind) [
        | inl whole ↦
            let one : one_record s next ≡ one_record (take n (drop 4 behind)) (at + 5 + n) = sym at_open ∙ whole.2 in
            let is : s ≡ take n (drop 4 behind) = cc in
            let to : next ≡ at + 5 + n = cc in
            let length_is : length s ≡ n = ap length is ∙ length-take-le n (drop 4 behind) (omega (arith, whole.1, length-drop 4 behind)) in
            let four : to_be_bytes w32 n ≡ take 4 behind =
            be_bytes_4 (take 4 behind) n (length-take-le 4 behind (omega (arith, whole.1)))
            (byte_at (take 4 behind) (All-take (λ b. b < 256) 4 behind (All-drop (λ b. b < 256) 1 (gate ∷ behind) all))) refl in (
              drop n (drop 4 behind),
              omega (arith, whole.0, length_is),
              to ∙ ap (λ (m : ℕ). at + 5 + m) (sym length_is),
              ap (λ (g : ℕ). g ∷ behind) is_open ∙ ap (λ (l : List ℕ). 1 ∷ l)
                  (sym (take-append-drop 4 behind) ∙ ap (λ (l : List ℕ). l ++ drop 4 behind) (sym four ∙ ap (to_be_bytes w32) (sym length_is))
                  ∙ ap (λ (l : List ℕ). to_be_bytes w32 (length s) ++ l)
                  (sym (take-append-drop n (drop 4 behind)) ∙ ap (λ (l : List ℕ). l ++ drop n (drop 4 behind)) (sym is))),
            )
        | inr damaged ↦ cc
      ]
  | inr closed ↦ let ends = found_closed at gate behind closed in cc
]

module _ (region : ℕ) (bytes : List ℕ) (all : All (λ b. b < 256) bytes) where
  stands_on : (ss h : List (List ℕ)) (at e : ℕ) → Front region h at bytes → ScansTo region ss e at bytes → StandsTo region (format_of bytes) (h ++ ss) e bytes
  stands_on [] h at e front found =
      let there = closed_there at e front.rest (sym (front_finds region at h bytes front) ∙ found) in
      subst (λ (n : ℕ). StandsTo region (format_of bytes) (h ++ []) n bytes) there.4
      (subst (λ (k : List (List ℕ)). StandsTo region (format_of bytes) k at bytes) (sym (append-nil h))
      (subst (λ (f : ℕ). StandsTo region f h at bytes) (sym (front_format region at h bytes front))
      (front_ends region at h bytes front there.0 there.1 there.2 there.3)))
  stands_on (s ∷ ss) h at e front found =
      let rest_bytes : All (λ b. b < 256) front.rest = subst (All (λ b. b < 256)) (front_rest region at h bytes front) (All-drop (λ b. b < 256) at bytes all) in
      let there = record_there at (at + 5 + length s) s front.rest rest_bytes (sym (front_finds region at h bytes front) ∙ found.0) in
      subst (λ (k : List (List ℕ)). StandsTo region (format_of bytes) k e bytes) (append_assoc h (s ∷ []) ss)
      (stands_on ss (h ++ s ∷ []) (at + 5 + length s) e (front_more region at h bytes front s there.0 there.1 there.3) found.1)

-- the header is right where the first scan finds neither that there is none nor damage
first_read : (region : ℕ) (bytes : List ℕ) (f : Finding) → f ≢ no_header → ((offset : ℕ) → f ≢ damaged_at offset) → first_in region bytes ≡ f
    → Front region [] 16 bytes
first_read region bytes f some sound found = elim (cases_Bool (is_empty_volume bytes)) [
  | inl empty ↦ absurd (some (sym found ∙ cond-true (is_empty_volume bytes) no_header (by_label region bytes) empty))
  | inr filled ↦
      let parts = or_parts (nat_lt (length bytes) 16) (not (get_or bytes 0 0 == 1)) filled in
      let long = ltb-false (length bytes) 16 parts.0 in
      let is_open = eqb-true (get_or bytes 0 0) 1 (not-false (get_or bytes 0 0 == 1) parts.1) in
      elim (cases_label region bytes) [
        | inl right ↦ header_read region bytes long is_open right
        | inr wrong ↦ absurd (sound 1 (sym found ∙ first_wrong region bytes long is_open wrong))
      ]
]

pub scanning_stands : ScanningStands
scanning_stands region bytes [] e all found = stands_on region bytes all [] [] 16 e
    (first_read region bytes (end_at e) (λ is. cc) (λ offset is. cc) found) found
scanning_stands region bytes (s ∷ ss) e all found =
    stands_on region bytes all (s ∷ ss) [] 16 e (first_read region bytes (one_record s (21 + length s)) (λ is. cc) (λ offset is. cc) found.0) found
