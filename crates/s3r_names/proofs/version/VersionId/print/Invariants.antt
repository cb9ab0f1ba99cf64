use Rattle.std.proofs.Common.{◌≡◌, ◌-◌, ◌+◌, ◌++◌, get_or, drop, length}
use Rattle.s3r_names.specs.Version.{hex_digits}
use Rattle.s3r_names.proofs.version.VersionId.print.Given as goal

abbrev pub invariant-loop-done : goal.invariant-loop-done
invariant-loop-done l = record {
  len : length l.into ≡ 18;
  region : get_or l.into 0 0 ≡ l.self.region + 48;
  dash : get_or l.into 1 0 ≡ 45;
  digits : hex_digits (16 - l.done) l.left ++ drop (18 - l.done) l.into ≡ hex_digits 16 l.self.index;
}
