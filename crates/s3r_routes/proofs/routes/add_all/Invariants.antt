use Rattle.std.proofs.Common.{◌≡◌, drop, map}
use Rattle.s3r_routes.specs.Paths.{seen_pattern, with_patterns, AreFree}
use Rattle.s3r_routes.proofs.routes.add_all.Given as goal

abbrev pub invariant-loop-pattern : goal.invariant-loop-pattern
invariant-loop-pattern l =
    record {
      free : AreFree (map seen_pattern (drop l.pattern-index l.patterns)) l.router;
      rows : with_patterns (map seen_pattern (drop l.pattern-index l.patterns)) l.router ≡ with_patterns (map seen_pattern l.patterns) l.fn.router;
    }
