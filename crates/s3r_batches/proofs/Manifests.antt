-- How many lines a manifest has.
use Rattle.std.proofs.Common.{◌≡◌, ℕ, ◌≤◌, Bool, List, length, map, Option, Some, None, Result, Ok, Err, refl, ap, subst, arith}
use Rattle.std.proofs.lemmas.List.{length-map}
use Rattle.s3r_lines.specs.declared.object.ObjectRef.{ObjectRef}
use Rattle.s3r_lines.specs.declared.kind.LineKind.{LineKind}
use Rattle.s3r_manifest.specs.declared.fault.ManifestFault.{ManifestFault}
use Rattle.s3r_manifest.specs.Lines.{line_of, rows_of, manifest}
use Rattle.s3r_manifest.proofs.Meanings.{one_reading}
use Rattle.s3r_history.specs.declared.creation.Creation.{Creation}
use Rattle.s3r_history.specs.Past.{Entry, ReadLines}
use Rattle.s3r_history.specs.JobLines.{as_read, lines_in}

abbrev AreFew : ReadLines → Type 0
AreFew (Ok lines) = length lines ≤ 20000
AreFew (Err why) = Unit {0}

abbrev right : ObjectRef → Result ObjectRef LineKind
right line = Ok line

few_lines : (versions : Bool) (text : List ℕ) (lines : List ObjectRef) → manifest versions text ≡ Ok lines → length lines ≤ 20000
few_lines versions text lines is =
    let m = (one_reading versions text (Ok lines)).0 is in
    let both : length (map (line_of versions) (rows_of text)) ≡ length (map right lines) = ap (λ (rs : List (Result ObjectRef LineKind)). length rs) m.2 in
    omega (arith, m.1, length-map (rows_of text) (line_of versions), length-map lines right, both)

few_as_read : (versions : Bool) (text : List ℕ) (read : Result (List ObjectRef) ManifestFault) → manifest versions text ≡ read → AreFew (as_read read)
few_as_read versions text (Ok lines) is = few_lines versions text lines is
few_as_read versions text (Err fault) is = tt

-- a manifest that was read has at most 20,000 lines
pub few_in : (c : Creation) (found : Option Entry) (lines : List ObjectRef) → lines_in c found ≡ Ok lines → length lines ≤ 20000
few_in c None lines is = absurd cc
few_in c (Some row) lines is =
    subst AreFew is (few_as_read c.spec.manifest.versions row.body (manifest c.spec.manifest.versions row.body) refl)
