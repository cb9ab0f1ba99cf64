-- The reading of a text, where some of its records were read and these are left.
use Rattle.std.proofs.Common.{◌≡◌, ◌∙◌, ℕ, zero, suc, ◌+◌, ◌≤◌, Bool, true, false, not, nat_lt, if◌then◌else◌, List, [], ◌∷◌, ◌++◌, length, take, Result, Ok, Err, refl, sym, ap, subst, append_assoc, length-append, arith}
use Rattle.std.proofs.lemmas.Bool.Decides.{nat_tests}
use Rattle.std.proofs.lemmas.List.{append-nil}
use Rattle.s3r_lines.specs.declared.object.ObjectRef.{ObjectRef}
use Rattle.s3r_lines.specs.declared.kind.LineKind.{LineKind}
use Rattle.s3r_manifest.specs.declared.fault.ManifestFault.{ManifestFault}
use Rattle.s3r_manifest.specs.declared.fault.ManifestFault.TheVariants.{BadLine, TooManyLines, ManifestTooLong, OutOfMemory}
use Rattle.s3r_manifest.specs.Faults.{Fails, FailsAt}
use Rattle.s3r_manifest.specs.Lines.{Row, ◌>>=◌, line_of, numbered, onto, lines_from, within, lines_of, rows_of, manifest}

-- the lines of records, where there is room for so many
abbrev left : Bool → ℕ → ℕ → List Row → Result (List ObjectRef) ManifestFault
left versions room number rows = lines_from versions number (take room rows) >>= (λ lines. within room rows lines)

-- lines behind those that were read
abbrev after : List ObjectRef → Result (List ObjectRef) ManifestFault → Result (List ObjectRef) ManifestFault
after done (Ok lines) = Ok (done ++ lines)
after done (Err fault) = Err fault

after-nil : (asked : Result (List ObjectRef) ManifestFault) → after [] asked ≡ asked
after-nil (Ok lines) = refl
after-nil (Err fault) = refl

-- ---- the first of the records that are left

one-less : (room count : ℕ) → nat_lt (suc room) (suc count) ≡ nat_lt room count
one-less room count = grind (arith, nat_tests)

-- a line that is read goes behind those that were
moved : (done : List ObjectRef) (line : ObjectRef) (room : ℕ) (row : Row) (rest : List Row) (more : Result (List ObjectRef) ManifestFault)
    → after done (onto (Ok line) more >>= (λ lines. within (suc room) (row ∷ rest) lines))
    ≡ after (done ++ line ∷ []) (more >>= (λ lines. within room rest lines))
moved done line room row rest (Err fault) = refl
moved done line room row rest (Ok lines) =
    ap (λ (b : Bool). after done (if b then Err TooManyLines else Ok (line ∷ lines))) (one-less room (length rest)) ∙ go (nat_lt room (length rest))
  where
    go : (b : Bool) → after done (if b then Err TooManyLines else Ok (line ∷ lines))
        ≡ after (done ++ line ∷ []) (if b then Err TooManyLines else Ok lines)
    go true = refl
    go false = rw append_assoc refl

-- what the first record comes to
first-line : (versions : Bool) (room number : ℕ) (row : Row) (rest : List Row) (done : List ObjectRef) (found : Result ObjectRef LineKind)
    → line_of versions row ≡ found
    → after done (left versions (suc room) number (row ∷ rest))
    ≡ after done (onto (numbered number found) (lines_from versions (suc number) (take room rest))
    >>= (λ lines. within (suc room) (row ∷ rest) lines))
unfolding lines_from
first-line versions room number row rest done found is =
    ap (λ (f : Result ObjectRef LineKind). after done (onto (numbered number f) (lines_from versions (suc number) (take room rest))
    >>= (λ lines. within (suc room) (row ∷ rest) lines))) is

line-more : (versions : Bool) (room number : ℕ) (row : Row) (rest : List Row) (done : List ObjectRef) (line : ObjectRef)
    → line_of versions row ≡ Ok line
    → after done (left versions (suc room) number (row ∷ rest)) ≡ after (done ++ line ∷ []) (left versions room (suc number) rest)
line-more versions room number row rest done line is =
    first-line versions room number row rest done (Ok line) is
    ∙ moved done line room row rest (lines_from versions (suc number) (take room rest))

line-wrong : (versions : Bool) (room number : ℕ) (row : Row) (rest : List Row) (done : List ObjectRef) (fault : ManifestFault)
    → FailsAt number fault (line_of versions row) → Fails fault (after done (left versions (suc room) number (row ∷ rest)))
line-wrong versions room number row rest done (BadLine n kind) is =
    first-line versions room number row rest done (Err kind) is.1 ∙ ap (λ (k : ℕ). Err (BadLine k kind)) (sym is.0)
line-wrong versions room number row rest done TooManyLines is = absurd is
line-wrong versions room number row rest done ManifestTooLong is = absurd is
line-wrong versions room number row rest done OutOfMemory is = tt

too-many : (versions : Bool) (number : ℕ) (row : Row) (rest : List Row) (done : List ObjectRef)
    → after done (left versions 0 number (row ∷ rest)) ≡ Err TooManyLines
unfolding lines_from
too-many versions number row rest done =
    let full : nat_lt 0 (suc (length rest)) ≡ true = grind (arith, nat_tests) in
    rw full refl

none-left : (versions : Bool) (room number : ℕ) (done : List ObjectRef) → after done (left versions room number []) ≡ Ok done
unfolding lines_from
none-left versions room number done =
    let fits : nat_lt room 0 ≡ false = grind (arith, nat_tests) in
    go room fits
  where
    go : (n : ℕ) → nat_lt n 0 ≡ false → after done (left versions n number []) ≡ Ok done
    go zero fits = ap Ok (append-nil done)
    go (suc n) fits = rw fits (ap Ok (append-nil done))

-- ---- what a reader of the records keeps

-- So many records were read as these lines, and with those that are left they are read as this.
pub record Left (versions : Bool) (done : ℕ) (lines : List ObjectRef) (rows : List Row) (reading : Result (List ObjectRef) ManifestFault) : Type 0 where
  pub room : ℕ
  pub all : done + room ≡ 20000
  pub is : after lines (left versions room (suc done) rows) ≡ reading
  pub count : length lines ≡ done

pub left-all : (versions : Bool) (lines : List ObjectRef) (rows : List Row) → lines ≡ [] → Left versions 0 lines rows (lines_of versions rows)
left-all versions lines rows none = record {
  room = 20000;
  all = refl;
  is = ap (λ (l : List ObjectRef). after l (left versions 20000 1 rows)) none ∙ after-nil (left versions 20000 1 rows);
  count = ap length none;
}

-- where fewer were read than there is room for, there is room for one more
one-more : (room done : ℕ) → done + room ≡ 20000 → done + 1 ≤ 20000 → (less : ℕ) × (room ≡ suc less) × ((done + 1) + less ≡ 20000)
one-more zero done all few = absurd (omega (arith, all, few))
one-more (suc less) done all few = (less, refl, omega (arith, all))

-- the same equation of the record that is next
next-is : (versions : Bool) (room less done : ℕ) (lines : List ObjectRef) (rows : List Row) (row : Row) (rest : List Row)
    (reading : Result (List ObjectRef) ManifestFault) → room ≡ suc less → rows ≡ row ∷ rest → after lines (left versions room (suc done) rows) ≡ reading
    → after lines (left versions (suc less) (done + 1) (row ∷ rest)) ≡ reading
next-is versions room less done lines rows row rest reading fewer first is =
    let next : done + 1 ≡ suc done = omega arith in
    (λ i. after lines (left versions (sym fewer i) (next i) (sym first i))) ∙ is

pub left-more : {versions : Bool} {done : ℕ} {lines : List ObjectRef} {rows : List Row} {reading : Result (List ObjectRef) ManifestFault}
    (h : Left versions done lines rows reading) (row : Row) (rest : List Row) (line : ObjectRef) (grown : List ObjectRef)
    → rows ≡ row ∷ rest → done + 1 ≤ 20000 → line_of versions row ≡ Ok line → grown ≡ lines ++ line ∷ [] → Left versions (done + 1) grown rest reading
left-more {versions} {done} {lines} {rows} {reading} h row rest line grown first few right pushed =
    let less = one-more h.room done h.all few in
    record {
      room = less.0;
      all = less.2;
      is = ap (λ (l : List ObjectRef). after l (left versions less.0 (suc (done + 1)) rest)) pushed
          ∙ sym (line-more versions less.0 (done + 1) row rest lines line right)
          ∙ next-is versions h.room less.0 done lines rows row rest reading less.1 first h.is;
      count = omega (arith, ap length pushed, length-append lines (line ∷ []), h.count);
    }

pub left-wrong : {versions : Bool} {done : ℕ} {lines : List ObjectRef} {rows : List Row} {reading : Result (List ObjectRef) ManifestFault}
    (h : Left versions done lines rows reading) (row : Row) (rest : List Row) (fault : ManifestFault)
    → rows ≡ row ∷ rest → done + 1 ≤ 20000 → FailsAt (done + 1) fault (line_of versions row) → Fails fault reading
left-wrong {versions} {done} {lines} {rows} {reading} h row rest fault first few wrong =
    let less = one-more h.room done h.all few in
    subst (λ (r : Result (List ObjectRef) ManifestFault). Fails fault r) (next-is versions h.room less.0 done lines rows row rest reading less.1 first h.is)
    (line-wrong versions less.0 (done + 1) row rest lines fault wrong)

pub left-many : {versions : Bool} {done : ℕ} {lines : List ObjectRef} {rows : List Row} {reading : Result (List ObjectRef) ManifestFault}
    (h : Left versions done lines rows reading) (row : Row) (rest : List Row) → rows ≡ row ∷ rest → 20000 ≤ done → reading ≡ Err TooManyLines
left-many {versions} {done} {lines} {rows} {reading} h row rest first many =
    let none : h.room ≡ 0 = omega (arith, h.all, many) in
    sym h.is ∙ (λ i. after lines (left versions (none i) (suc done) (first i))) ∙ too-many versions (suc done) row rest lines

pub left-none : {versions : Bool} {done : ℕ} {lines : List ObjectRef} {rows : List Row} {reading : Result (List ObjectRef) ManifestFault}
    → Left versions done lines rows reading → rows ≡ [] → reading ≡ Ok lines
left-none {versions} {done} {lines} {rows} {reading} h none =
    sym h.is ∙ ap (λ (r : List Row). after lines (left versions h.room (suc done) r)) none ∙ none-left versions h.room (suc done) lines

-- ---- the text

-- a text that isn't too long
pub of-short : (versions : Bool) (text : List ℕ) → length text ≤ 4194304 → manifest versions text ≡ lines_of versions (rows_of text)
of-short versions text short =
    let fits : nat_lt 4194304 (length text) ≡ false = grind (arith, nat_tests) in
    rw fits refl

pub is-found : (b : Bool) → not b ≡ false → b ≡ true
is-found true e = refl
is-found false e = cc

pub is-missing : (b : Bool) → not b ≡ true → b ≡ false
is-missing true e = cc
is-missing false e = refl
