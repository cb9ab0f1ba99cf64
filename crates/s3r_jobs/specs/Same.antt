-- When two specifications are the same: member by member.
use Rattle.std.specs.Prelude.{◌==◌, Bool, true, false, ◌&&◌, if◌then◌else◌, not, List, [], ◌∷◌, Option, Some, None}
use Rattle.std.specs.Str.{bytes_eq}
use Rattle.s3r_names.specs.declared.tags.Tag.{Tag}
use Rattle.s3r_names.specs.declared.version.VersionId.{VersionId}
use Rattle.s3r_jobs.specs.declared.spec.JobSpec.{JobSpec}
use Rattle.s3r_jobs.specs.declared.spec.ManifestSpec.{ManifestSpec}
use Rattle.s3r_jobs.specs.declared.spec.ReportSpec.{ReportSpec}
use Rattle.s3r_jobs.specs.declared.spec.Operation.{Operation}
use Rattle.s3r_jobs.specs.declared.spec.Operation.TheVariants.{Copy, Tagging, Hold, Replicate}

-- two values of which either may be missing
abbrev pub same_option : {X : Type 0} → (X → X → Bool) → Option X → Option X → Bool
same_option same None None = true
same_option same (Some a) (Some b) = same a b
same_option same None (Some b) = false
same_option same (Some a) None = false

abbrev pub same_flag : Bool → Bool → Bool
same_flag a b = if a then b else not b

abbrev pub same_tag : Tag → Tag → Bool
same_tag a b = bytes_eq a.key b.key && bytes_eq a.value b.value

abbrev pub same_tags : List Tag → List Tag → Bool
same_tags [] [] = true
same_tags (a ∷ behind_a) (b ∷ behind_b) = same_tag a b && same_tags behind_a behind_b
same_tags [] (b ∷ behind_b) = false
same_tags (a ∷ behind_a) [] = false

abbrev pub same_version : VersionId → VersionId → Bool
same_version a b = (a.region == b.region) && (a.index == b.index)

abbrev pub same_operation : Operation → Operation → Bool
same_operation (Copy target prefix) (Copy other_target other_prefix) = bytes_eq target other_target && same_option bytes_eq prefix other_prefix
same_operation (Tagging tags) (Tagging other) = same_tags tags other
same_operation (Hold hold) (Hold other) = same_flag hold other
same_operation Replicate Replicate = true
same_operation a b = false

abbrev pub same_manifest : ManifestSpec → ManifestSpec → Bool
same_manifest a b =
    same_flag a.versions b.versions && (bytes_eq a.bucket b.bucket && (bytes_eq a.key b.key && same_option same_version a.version b.version))

abbrev pub same_report : ReportSpec → ReportSpec → Bool
same_report a b = bytes_eq a.bucket b.bucket && (same_option bytes_eq a.prefix b.prefix && same_flag a.all b.all)

abbrev pub same_spec : JobSpec → JobSpec → Bool
same_spec a b =
    bytes_eq a.token b.token && ((a.priority == b.priority) && (same_flag a.confirm b.confirm
    && (same_operation a.operation b.operation && (same_manifest a.manifest b.manifest && same_option same_report a.report b.report))))
