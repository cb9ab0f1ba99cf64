use Rattle.std.proofs.Common.{◌≡◌, ◌<◌, ◌^◌, take, drop}
use Rattle.s3r_names.specs.Version.{hex_digits}
use Rattle.s3r_names.proofs.HexDigits.{hex_from}
use Rattle.s3r_names.proofs.version.hex_number.Given as goal

abbrev pub invariant-loop-byte : goal.invariant-loop-byte
invariant-loop-byte l = record {
  below : l.number < 16 ^ l.byte-index;
  spelled : take l.byte-index l.digits ≡ hex_digits l.byte-index l.number;
  reads : hex_from l.number (drop l.byte-index l.digits) ≡ hex_from 0 l.digits;
}
