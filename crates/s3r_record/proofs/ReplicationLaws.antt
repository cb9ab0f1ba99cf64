-- The laws of each command about a bucket's replication.
use Rattle.std.proofs.Common.{ℕ, List, [], ◌∷◌}
use Rattle.s3r_rules.specs.declared.rule.Rule.{Rule}
use Rattle.s3r_record.specs.declared.command.Command.TheVariants as command
use Rattle.s3r_record.specs.Spelling.{spelling, IsCommand}
use Rattle.s3r_record.specs.ReplicationCommands.{set_replication_at, drop_replication_at}
use Rattle.s3r_record.proofs.ConfigLaws.{rules_law}
use Rattle.s3r_record.proofs.FieldLaws.{bucket_name_law}
use Rattle.s3r_record.proofs.Ruled.{Ruled}
use Rattle.s3r_record.proofs.SeveralFields.{TakesBehind, ReadBehind, take_then, take_end, again_then, again_end}

pub set_replication_takes : TakesBehind spelling Ruled (4 ∷ []) set_replication_at
unfolding set_replication_at
set_replication_takes = take_then _ bucket_name_law (λ name named. take_then _ rules_law
    (λ rules is. take_end (command.SetReplication name rules.0 rules.1) (named, is.config, is.placed, is.texts)))

pub set_replication_again : (name : List ℕ) (config : List Rule) (regions : List ℕ) → IsCommand (command.SetReplication name config regions)
    → ReadBehind spelling (4 ∷ []) (command.SetReplication name config regions) set_replication_at
unfolding set_replication_at
set_replication_again name config regions fits =
    again_then _ bucket_name_law name fits.0 (again_then _ rules_law (config, regions) (record { config = fits.1; placed = fits.2; texts = fits.4 })
    (again_end (command.SetReplication name config regions)))

pub drop_replication_takes : TakesBehind spelling Ruled (5 ∷ []) drop_replication_at
unfolding drop_replication_at
drop_replication_takes = take_then _ bucket_name_law (λ name named. take_end (command.DropReplication name) named)

pub drop_replication_again : (name : List ℕ) → IsCommand (command.DropReplication name)
    → ReadBehind spelling (5 ∷ []) (command.DropReplication name) drop_replication_at
unfolding drop_replication_at
drop_replication_again name fits = again_then _ bucket_name_law name fits (again_end (command.DropReplication name))
