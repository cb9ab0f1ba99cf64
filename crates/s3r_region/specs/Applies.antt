-- What a command that is accepted does to a state, whatever its history is.
use Rattle.std.specs.Prelude.{◌≡◌, ◌∷◌, ◌+◌, None}
use Rattle.s3r_record.specs.declared.command.Command.{Command}
use Rattle.s3r_history.specs.Words.{History}
use Rattle.s3r_history.specs.Accepts.{refusal}
use Rattle.s3r_region.specs.Contents.{Contents}
use Rattle.s3r_region.specs.After.{IsAfter}

pub record Applies (c : Command) (old new : Contents) : Type 0 where
  pub after : (h : History) → IsAfter old h → refusal old.regions old.region h c ≡ None → IsAfter new (c ∷ h)
  pub count : new.commands ≡ old.commands + 1
  pub region : new.region ≡ old.region
  pub regions : new.regions ≡ old.regions
