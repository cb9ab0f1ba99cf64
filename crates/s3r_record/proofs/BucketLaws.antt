-- The laws of each command about a bucket.
use Rattle.std.proofs.Common.{ℕ, Bool, List, [], ◌∷◌}
use Rattle.s3r_record.specs.declared.command.Command.TheVariants as command
use Rattle.s3r_record.specs.Spelling.{spelling, IsCommand}
use Rattle.s3r_record.specs.BucketCommands.{create_bucket_at, delete_bucket_at, set_versioning_at}
use Rattle.s3r_record.proofs.FieldLaws.{flag_law, bucket_name_law}
use Rattle.s3r_record.proofs.Ruled.{Ruled}
use Rattle.s3r_record.proofs.SeveralFields.{TakesBehind, ReadBehind, take_then, take_end, again_then, again_end}

pub create_bucket_takes : TakesBehind spelling Ruled (1 ∷ []) create_bucket_at
unfolding create_bucket_at
create_bucket_takes = take_then _ bucket_name_law (λ name named. take_then _ flag_law (λ locked _. take_end (command.CreateBucket name locked) named))

pub create_bucket_again : (name : List ℕ) (locked : Bool) → IsCommand (command.CreateBucket name locked)
    → ReadBehind spelling (1 ∷ []) (command.CreateBucket name locked) create_bucket_at
unfolding create_bucket_at
create_bucket_again name locked fits = again_then _ bucket_name_law name fits (again_then _ flag_law locked tt (again_end (command.CreateBucket name locked)))

pub delete_bucket_takes : TakesBehind spelling Ruled (2 ∷ []) delete_bucket_at
unfolding delete_bucket_at
delete_bucket_takes = take_then _ bucket_name_law (λ name named. take_end (command.DeleteBucket name) named)

pub delete_bucket_again : (name : List ℕ) → IsCommand (command.DeleteBucket name) → ReadBehind spelling (2 ∷ []) (command.DeleteBucket name) delete_bucket_at
unfolding delete_bucket_at
delete_bucket_again name fits = again_then _ bucket_name_law name fits (again_end (command.DeleteBucket name))

pub set_versioning_takes : TakesBehind spelling Ruled (3 ∷ []) set_versioning_at
unfolding set_versioning_at
set_versioning_takes = take_then _ bucket_name_law (λ name named. take_then _ flag_law (λ enabled _. take_end (command.SetVersioning name enabled) named))

pub set_versioning_again : (name : List ℕ) (enabled : Bool) → IsCommand (command.SetVersioning name enabled)
    → ReadBehind spelling (3 ∷ []) (command.SetVersioning name enabled) set_versioning_at
unfolding set_versioning_at
set_versioning_again name enabled fits = again_then _ bucket_name_law name fits
    (again_then _ flag_law enabled tt (again_end (command.SetVersioning name enabled)))
