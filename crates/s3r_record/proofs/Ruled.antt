-- What reading tells of a command: its fields meet their rules. Its length is told where the bytes are counted.
use Rattle.std.proofs.Common.{◌≤◌, length, IsTrue}
use Rattle.std.specs.List.{list_all}
use Rattle.s3r_names.specs.Bucket.{is_bucket_name}
use Rattle.s3r_rules.specs.Rules.{is_config}
use Rattle.s3r_record.specs.declared.command.Command.{Command}
use Rattle.s3r_record.specs.declared.command.Command.TheVariants as command
use Rattle.s3r_record.specs.Placing.{IsPlaced, has_texts}
use Rattle.s3r_record.specs.Spelling.{spelling, IsCommand}

abbrev pub Ruled : Command → Type 0
Ruled (command.SetReplication name config regions) = IsTrue (is_bucket_name name) × IsTrue (is_config config) × IsPlaced config regions
    × IsTrue (list_all has_texts config)
Ruled (command.CreateBucket name locked) = IsCommand (command.CreateBucket name locked)
Ruled (command.DeleteBucket name) = IsCommand (command.DeleteBucket name)
Ruled (command.SetVersioning name enabled) = IsCommand (command.SetVersioning name enabled)
Ruled (command.DropReplication name) = IsCommand (command.DropReplication name)
Ruled (command.Put bucket key tags hold class bytes) = IsCommand (command.Put bucket key tags hold class bytes)
Ruled (command.Marker bucket key) = IsCommand (command.Marker bucket key)
Ruled (command.Remove bucket key id) = IsCommand (command.Remove bucket key id)
Ruled (command.SetTags bucket key id tags) = IsCommand (command.SetTags bucket key id tags)
Ruled (command.SetHold bucket key id hold) = IsCommand (command.SetHold bucket key id hold)
Ruled (command.Receive from n effect) = IsCommand (command.Receive from n effect)
Ruled (command.Settle to n outcome) = IsCommand (command.Settle to n outcome)
Ruled (command.Attempt to n) = IsCommand (command.Attempt to n)
Ruled (command.CreateJob spec manifest) = IsCommand (command.CreateJob spec manifest)
Ruled (command.MoveJob job state) = IsCommand (command.MoveJob job state)
Ruled (command.SetPriority job priority) = IsCommand (command.SetPriority job priority)
Ruled (command.Prepare job) = IsCommand (command.Prepare job)
Ruled (command.Line job line) = IsCommand (command.Line job line)
Ruled (command.Finish job bytes) = IsCommand (command.Finish job bytes)

pub ruled_is : (c : Command) → Ruled c → length (spelling c) ≤ 16777216 → IsCommand c
ruled_is (command.SetReplication name config regions) ruled short = (ruled.0, ruled.1, ruled.2, short, ruled.3)
ruled_is (command.CreateBucket name locked) ruled short = ruled
ruled_is (command.DeleteBucket name) ruled short = ruled
ruled_is (command.SetVersioning name enabled) ruled short = ruled
ruled_is (command.DropReplication name) ruled short = ruled
ruled_is (command.Put bucket key tags hold class bytes) ruled short = ruled
ruled_is (command.Marker bucket key) ruled short = ruled
ruled_is (command.Remove bucket key id) ruled short = ruled
ruled_is (command.SetTags bucket key id tags) ruled short = ruled
ruled_is (command.SetHold bucket key id hold) ruled short = ruled
ruled_is (command.Receive from n effect) ruled short = ruled
ruled_is (command.Settle to n outcome) ruled short = ruled
ruled_is (command.Attempt to n) ruled short = ruled
ruled_is (command.CreateJob spec manifest) ruled short = ruled
ruled_is (command.MoveJob job state) ruled short = ruled
ruled_is (command.SetPriority job priority) ruled short = ruled
ruled_is (command.Prepare job) ruled short = ruled
ruled_is (command.Line job line) ruled short = ruled
ruled_is (command.Finish job bytes) ruled short = ruled
