-- The laws of each command about versions.
use Rattle.std.proofs.Common.{ℕ, Bool, List, [], ◌∷◌, lit<}
use Rattle.s3r_names.specs.declared.tags.Tag.{Tag}
use Rattle.s3r_names.specs.declared.version.VersionId.{VersionId}
use Rattle.s3r_record.specs.declared.command.Command.TheVariants as command
use Rattle.s3r_record.specs.Spelling.{spelling, IsCommand}
use Rattle.s3r_record.specs.VersionCommands.{put_at, marker_at, remove_at, set_tags_at, set_hold_at}
use Rattle.s3r_record.proofs.FieldLaws.{flag_law, bucket_name_law, key_law, class_law, body_law}
use Rattle.s3r_record.proofs.TagLaws.{set_law}
use Rattle.s3r_record.proofs.IdLaws.{id_law}
use Rattle.s3r_record.proofs.Ruled.{Ruled}
use Rattle.s3r_record.proofs.SeveralFields.{TakesBehind, ReadBehind, take_then, take_end, again_then, again_end}

pub put_takes : TakesBehind spelling Ruled (6 ∷ []) put_at
unfolding put_at
put_takes =
    take_then _ bucket_name_law (λ bucket b. take_then _ key_law (λ key k. take_then _ set_law
    (λ tags t. take_then _ flag_law (λ hold _. take_then _ class_law (λ class c. take_then _ (body_law 4194304 (lit< tt)) (λ bytes short.
    take_end (command.Put bucket key tags hold class bytes) (b, k, t, c, short)))))))

pub put_again : (bucket key : List ℕ) (tags : List Tag) (hold : Bool) (class bytes : List ℕ) → IsCommand (command.Put bucket key tags hold class bytes)
    → ReadBehind spelling (6 ∷ []) (command.Put bucket key tags hold class bytes) put_at
unfolding put_at
put_again bucket key tags hold class bytes fits =
    again_then _ bucket_name_law bucket fits.0 (again_then _ key_law key fits.1
    (again_then _ set_law tags fits.2 (again_then _ flag_law hold tt
    (again_then _ class_law class fits.3 (again_then _ (body_law 4194304 (lit< tt)) bytes fits.4
    (again_end (command.Put bucket key tags hold class bytes)))))))

pub marker_takes : TakesBehind spelling Ruled (7 ∷ []) marker_at
unfolding marker_at
marker_takes = take_then _ bucket_name_law (λ bucket b. take_then _ key_law (λ key k. take_end (command.Marker bucket key) (b, k)))

pub marker_again : (bucket key : List ℕ) → IsCommand (command.Marker bucket key) → ReadBehind spelling (7 ∷ []) (command.Marker bucket key) marker_at
unfolding marker_at
marker_again bucket key fits = again_then _ bucket_name_law bucket fits.0 (again_then _ key_law key fits.1 (again_end (command.Marker bucket key)))

pub remove_takes : TakesBehind spelling Ruled (8 ∷ []) remove_at
unfolding remove_at
remove_takes = take_then _ bucket_name_law (λ bucket b. take_then _ key_law
    (λ key k. take_then _ id_law (λ id i. take_end (command.Remove bucket key id) (b, k, i))))

pub remove_again : (bucket key : List ℕ) (id : VersionId) → IsCommand (command.Remove bucket key id)
    → ReadBehind spelling (8 ∷ []) (command.Remove bucket key id) remove_at
unfolding remove_at
remove_again bucket key id fits = again_then _ bucket_name_law bucket fits.0
    (again_then _ key_law key fits.1 (again_then _ id_law id fits.2 (again_end (command.Remove bucket key id))))

pub set_tags_takes : TakesBehind spelling Ruled (9 ∷ []) set_tags_at
unfolding set_tags_at
set_tags_takes =
    take_then _ bucket_name_law (λ bucket b. take_then _ key_law (λ key k. take_then _ id_law
    (λ id i. take_then _ set_law (λ tags t. take_end (command.SetTags bucket key id tags) (b, k, i, t)))))

pub set_tags_again : (bucket key : List ℕ) (id : VersionId) (tags : List Tag) → IsCommand (command.SetTags bucket key id tags)
    → ReadBehind spelling (9 ∷ []) (command.SetTags bucket key id tags) set_tags_at
unfolding set_tags_at
set_tags_again bucket key id tags fits =
    again_then _ bucket_name_law bucket fits.0 (again_then _ key_law key fits.1
    (again_then _ id_law id fits.2 (again_then _ set_law tags fits.3 (again_end (command.SetTags bucket key id tags)))))

pub set_hold_takes : TakesBehind spelling Ruled (10 ∷ []) set_hold_at
unfolding set_hold_at
set_hold_takes =
    take_then _ bucket_name_law (λ bucket b. take_then _ key_law (λ key k. take_then _ id_law
    (λ id i. take_then _ flag_law (λ hold _. take_end (command.SetHold bucket key id hold) (b, k, i)))))

pub set_hold_again : (bucket key : List ℕ) (id : VersionId) (hold : Bool) → IsCommand (command.SetHold bucket key id hold)
    → ReadBehind spelling (10 ∷ []) (command.SetHold bucket key id hold) set_hold_at
unfolding set_hold_at
set_hold_again bucket key id hold fits =
    again_then _ bucket_name_law bucket fits.0 (again_then _ key_law key fits.1
    (again_then _ id_law id fits.2 (again_then _ flag_law hold tt (again_end (command.SetHold bucket key id hold)))))
