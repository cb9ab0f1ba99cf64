-- A manifest's reading is the one that its records mean.
use Rattle.std.proofs.Common.{◌≡◌, ◌∙◌, ℕ, zero, suc, ◌+◌, ◌<◌, ◌≤◌, Bool, true, false, nat_lt, if◌then◌else◌, List, [], ◌∷◌, ◌++◌, length, map, take, drop, Result, Ok, Err, refl, sym, ap, subst, append_assoc, arith}
use Rattle.std.proofs.lemmas.Bool.Decides.{nat_tests}
use Rattle.std.proofs.lemmas.List.{take_all, take-append-drop, length-take, length-append}
use Rattle.s3r_lines.specs.declared.object.ObjectRef.{ObjectRef}
use Rattle.s3r_lines.specs.declared.kind.LineKind.{LineKind}
use Rattle.s3r_manifest.specs.declared.fault.ManifestFault.{ManifestFault}
use Rattle.s3r_manifest.specs.declared.fault.ManifestFault.TheVariants.{BadLine, TooManyLines, ManifestTooLong, OutOfMemory}
use Rattle.s3r_manifest.specs.Lines.{Row, ◌>>=◌, line_of, numbered, onto, lines_from, within, lines_of, rows_of, manifest}
use Rattle.s3r_manifest.specs.Laws.{AreLines, IsFirstWrong, Means, OneReading}
use Rattle.s3r_manifest.proofs.Left.{of-short}

-- ---- what is read of records in turn

abbrev Tells : Bool → ℕ → List Row → Result (List ObjectRef) ManifestFault → Type 0
Tells versions first rows (Ok lines) = AreLines versions rows lines
Tells versions first rows (Err (BadLine number kind)) = IsFirstWrong versions first rows number kind
Tells versions first rows (Err TooManyLines) = ⊥
Tells versions first rows (Err ManifestTooLong) = ⊥
Tells versions first rows (Err OutOfMemory) = ⊥

tells : (versions : Bool) (first : ℕ) (rows : List Row) → Tells versions first rows (lines_from versions first rows)
unfolding lines_from
tells versions first [] = refl
tells versions first (row ∷ rows) = go (line_of versions row) refl (lines_from versions (suc first) rows) (tells versions (suc first) rows)
  where
    go : (found : Result ObjectRef LineKind) → line_of versions row ≡ found
        → (more : Result (List ObjectRef) ManifestFault) → Tells versions (suc first) rows more
        → Tells versions first (row ∷ rows) (onto (numbered first found) more)
    go (Err kind) e more t = record {
      before = [];
      row = row;
      behind = rows;
      parted = refl;
      place = omega arith;
      lines = [];
      right = refl;
      wrong = e;
    }
    go (Ok line) e (Ok lines) t = λ i. e i ∷ t i
    go (Ok line) e (Err (BadLine number kind)) t = record {
      before = row ∷ t.before;
      row = t.row;
      behind = t.behind;
      parted = ap (λ (r : List Row). row ∷ r) t.parted;
      place = omega (arith, t.place);
      lines = line ∷ t.lines;
      right = λ i. e i ∷ t.right i;
      wrong = t.wrong;
    }
    go (Ok line) e (Err TooManyLines) t = t
    go (Ok line) e (Err ManifestTooLong) t = t
    go (Ok line) e (Err OutOfMemory) t = t

-- the same, of all records of a text
among : (versions : Bool) (text : List ℕ) (number : ℕ) (kind : LineKind) → IsFirstWrong versions 1 (take 20000 (rows_of text)) number kind
    → (number ≤ 20000) × IsFirstWrong versions 1 (rows_of text) number kind
among versions text number kind w =
    let few = length-take 20000 (rows_of text) in
    let parts = ap length w.parted ∙ length-append w.before (w.row ∷ w.behind) in (
      omega (arith, few, parts, w.place),
      record {
        before = w.before;
        row = w.row;
        behind = w.behind ++ drop 20000 (rows_of text);
        parted = sym (take-append-drop 20000 (rows_of text))
            ∙ ap (λ (r : List Row). r ++ drop 20000 (rows_of text)) w.parted
            ∙ append_assoc w.before (w.row ∷ w.behind) (drop 20000 (rows_of text));
        place = w.place;
        lines = w.lines;
        right = w.right;
        wrong = w.wrong;
      },
    )

means-rows : (versions : Bool) (text : List ℕ) → length text ≤ 4194304 → Means versions text (lines_of versions (rows_of text))
means-rows versions text short = go (lines_from versions 1 (take 20000 (rows_of text))) (tells versions 1 (take 20000 (rows_of text)))
  where
    many : (lines : List ObjectRef) → AreLines versions (take 20000 (rows_of text)) lines → (b : Bool) → nat_lt 20000 (length (rows_of text)) ≡ b
        → Means versions text (if b then Err TooManyLines else Ok lines)
    many lines are true e = (short, grind (arith, nat_tests), (lines, are))
    many lines are false e =
        let few : length (rows_of text) ≤ 20000 = grind (arith, nat_tests) in
        (short, few, subst (λ (rows : List Row). AreLines versions rows lines) (take_all 20000 (rows_of text) few) are)

    go : (read : Result (List ObjectRef) ManifestFault) → Tells versions 1 (take 20000 (rows_of text)) read
        → Means versions text (read >>= (λ lines. within 20000 (rows_of text) lines))
    go (Ok lines) t = many lines t (nat_lt 20000 (length (rows_of text))) refl
    go (Err (BadLine number kind)) t = let first = among versions text number kind t in (short, first.0, first.1)
    go (Err TooManyLines) t = absurd t
    go (Err ManifestTooLong) t = absurd t
    go (Err OutOfMemory) t = t

means : (versions : Bool) (text : List ℕ) → Means versions text (manifest versions text)
means versions text = go (nat_lt 4194304 (length text)) refl
  where
    go : (b : Bool) → nat_lt 4194304 (length text) ≡ b → Means versions text (if b then Err ManifestTooLong else lines_of versions (rows_of text))
    go true e = grind (arith, nat_tests)
    go false e = means-rows versions text (grind (arith, nat_tests))

-- ---- what is meant is read

lines-right : (versions : Bool) (first : ℕ) (rows : List Row) (lines : List ObjectRef) → AreLines versions rows lines
    → lines_from versions first rows ≡ Ok lines
unfolding lines_from
lines-right versions first [] [] are = refl
lines-right versions first [] (line ∷ lines) are = absurd (cc)
lines-right versions first (row ∷ rows) [] are = absurd (cc)
lines-right versions first (row ∷ rows) (line ∷ lines) are =
    let head : line_of versions row ≡ Ok line = cc in
    let tail : map (line_of versions) rows ≡ map Ok lines = cc in
    ap (λ (r : Result ObjectRef LineKind). onto (numbered first r) (lines_from versions (suc first) rows)) head
    ∙ ap (λ (m : Result (List ObjectRef) ManifestFault). m >>= (λ more. Ok (line ∷ more))) (lines-right versions (suc first) rows lines tail)

lines-wrong : (versions : Bool) (first : ℕ) (before : List Row) (lines : List ObjectRef) (row : Row) (behind : List Row)
    (kind : LineKind) → AreLines versions before lines → line_of versions row ≡ Err kind
    → lines_from versions first (before ++ row ∷ behind) ≡ Err (BadLine (first + length before) kind)
unfolding lines_from
lines-wrong versions first [] lines row behind kind are wrong =
    let place : first ≡ first + 0 = omega arith in
    ap (λ (r : Result ObjectRef LineKind). onto (numbered first r) (lines_from versions (suc first) behind)) wrong
    ∙ ap (λ (n : ℕ). Err (BadLine n kind)) place
lines-wrong versions first (one ∷ before) [] row behind kind are wrong = absurd (cc)
lines-wrong versions first (one ∷ before) (line ∷ lines) row behind kind are wrong =
    let head : line_of versions one ≡ Ok line = cc in
    let tail : map (line_of versions) before ≡ map Ok lines = cc in
    let place : suc first + length before ≡ first + suc (length before) = omega arith in
    ap (λ (r : Result ObjectRef LineKind). onto (numbered first r) (lines_from versions (suc first) (before ++ row ∷ behind))) head
    ∙ ap (λ (m : Result (List ObjectRef) ManifestFault). m >>= (λ more. Ok (line ∷ more)))
    (lines-wrong versions (suc first) before lines row behind kind tail wrong)
    ∙ ap (λ (n : ℕ). Err (BadLine n kind)) place

take-past : (n : ℕ) (before : List Row) (row : Row) (behind : List Row) → length before < n
    → (more : List Row) × (take n (before ++ row ∷ behind) ≡ before ++ row ∷ more)
take-past zero before row behind lt = absurd (omega arith)
take-past (suc n) [] row behind lt = (take n behind, refl)
take-past (suc n) (one ∷ before) row behind lt =
    let rest = take-past n before row behind (omega arith) in
    (rest.0, ap (λ (r : List Row). one ∷ r) rest.1)

-- what is read of the first records decides first
decided : (versions : Bool) (rows : List Row) (found : Result (List ObjectRef) ManifestFault) → lines_from versions 1 (take 20000 rows) ≡ found
    → lines_of versions rows ≡ found >>= (λ lines. within 20000 rows lines)
decided versions rows found e =
    ap (λ (f : Result (List ObjectRef) ManifestFault). f >>= (λ lines. within 20000 rows lines)) e

read-lines : (versions : Bool) (rows : List Row) (lines : List ObjectRef) → length rows ≤ 20000 → AreLines versions rows lines
    → lines_of versions rows ≡ Ok lines
read-lines versions rows lines few are =
    let fits : nat_lt 20000 (length rows) ≡ false = grind (arith, nat_tests) in
    decided versions rows (Ok lines) (ap (lines_from versions 1) (take_all 20000 rows few) ∙ lines-right versions 1 rows lines are)
    ∙ ap (λ (b : Bool). if b then Err TooManyLines else Ok lines) fits

read-many : (versions : Bool) (rows : List Row) (lines : List ObjectRef) → 20000 < length rows → AreLines versions (take 20000 rows) lines
    → lines_of versions rows ≡ Err TooManyLines
read-many versions rows lines many are =
    let over : nat_lt 20000 (length rows) ≡ true = grind (arith, nat_tests) in
    decided versions rows (Ok lines) (lines-right versions 1 (take 20000 rows) lines are)
    ∙ ap (λ (b : Bool). if b then Err TooManyLines else Ok lines) over

read-wrong : (versions : Bool) (rows : List Row) (number : ℕ) (kind : LineKind) → number ≤ 20000 → IsFirstWrong versions 1 rows number kind
    → lines_of versions rows ≡ Err (BadLine number kind)
read-wrong versions rows number kind few w =
    let cut = take-past 20000 w.before w.row w.behind (omega (arith, few, w.place)) in
    decided versions rows (Err (BadLine number kind))
    (ap (λ (r : List Row). lines_from versions 1 (take 20000 r)) w.parted
    ∙ ap (lines_from versions 1) cut.1
    ∙ lines-wrong versions 1 w.before w.lines w.row cut.0 kind w.right w.wrong
    ∙ ap (λ (n : ℕ). Err (BadLine n kind)) (sym w.place))

reads : (versions : Bool) (text : List ℕ) (reading : Result (List ObjectRef) ManifestFault) → Means versions text reading → manifest versions text ≡ reading
reads versions text (Ok lines) m = of-short versions text m.0 ∙ read-lines versions (rows_of text) lines m.1 m.2
reads versions text (Err (BadLine number kind)) m = of-short versions text m.0 ∙ read-wrong versions (rows_of text) number kind m.1 m.2
reads versions text (Err TooManyLines) m = of-short versions text m.0 ∙ read-many versions (rows_of text) m.2.0 m.1 m.2.1
reads versions text (Err ManifestTooLong) m =
    let long : nat_lt 4194304 (length text) ≡ true = grind (arith, nat_tests) in
    ap (λ (b : Bool). if b then Err ManifestTooLong else lines_of versions (rows_of text)) long
reads versions text (Err OutOfMemory) m = absurd m

pub one_reading : OneReading
one_reading versions text reading =
    ((λ e. subst (λ (r : Result (List ObjectRef) ManifestFault). Means versions text r) e (means versions text)), reads versions text reading)
