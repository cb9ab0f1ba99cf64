use Rattle.std.proofs.Common.{ℕ, List, Some, Bor}
use Rattle.s3r_manifest.specs.Lines.{Row, lines_of, rows_of}
use Rattle.s3r_manifest.proofs.Records.{Stands}
use Rattle.s3r_manifest.proofs.Left.{Left}
use Rattle.s3r_manifest.proofs.reading.read.Given as goal

-- the reader stands before the records that are left
abbrev pub invariant-loop-done : goal.invariant-loop-done
invariant-loop-done l =
    (rows : List Row) × Stands (λ (s : Bor (List ℕ)). Some s.now) l.reader rows
    × Left l.versions l.done l.lines.items rows (lines_of l.versions (rows_of l.fn.bytes))
