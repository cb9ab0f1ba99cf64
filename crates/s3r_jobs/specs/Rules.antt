-- What may stand in a job's specification.
use Rattle.std.specs.Prelude.{◌≤◌, ℕ, Bool, ◌&&◌, nat_le, List, length, Option, Some, None, IsTrue}
use Rattle.std.specs.Str.{is_utf8}
use Rattle.s3r_names.specs.Bucket.{is_bucket_name}
use Rattle.s3r_names.specs.Key.{is_key}
use Rattle.s3r_names.specs.Tags.{is_text, is_tag_set}
use Rattle.s3r_names.specs.Version.{IsVersionId}
use Rattle.s3r_names.specs.declared.version.VersionId.{VersionId}
use Rattle.s3r_jobs.specs.declared.spec.JobSpec.{JobSpec}
use Rattle.s3r_jobs.specs.declared.spec.ManifestSpec.{ManifestSpec}
use Rattle.s3r_jobs.specs.declared.spec.ReportSpec.{ReportSpec}
use Rattle.s3r_jobs.specs.declared.spec.Operation.{Operation}
use Rattle.s3r_jobs.specs.declared.spec.Operation.TheVariants as operation

-- what tells a request that is sent again has 1 to 64 characters
abbrev pub is_token : List ℕ → Bool
is_token bytes = is_text 1 64 bytes

-- a prefix is text of at most so many bytes
abbrev pub is_prefix : ℕ → List ℕ → Bool
is_prefix most bytes = is_utf8 bytes && nat_le (length bytes) most

-- what the types of a prefix's, an id's, an operation's, a report's and a specification's fields leave open
abbrev pub PrefixMeetsLimits : ℕ → Option (List ℕ) → Type 0
PrefixMeetsLimits most None = Unit {0}
PrefixMeetsLimits most (Some prefix) = length prefix ≤ most

abbrev pub OptionIdMeetsLimits : Option VersionId → Type 0
OptionIdMeetsLimits None = Unit {0}
OptionIdMeetsLimits (Some id) = IsVersionId id

abbrev pub OperationMeetsLimits : Operation → Type 0
OperationMeetsLimits (operation.Copy target prefix) = PrefixMeetsLimits 1024 prefix
OperationMeetsLimits (operation.Tagging tags) = Unit {0}
OperationMeetsLimits (operation.Hold hold) = Unit {0}
OperationMeetsLimits operation.Replicate = Unit {0}

abbrev pub ReportMeetsLimits : Option ReportSpec → Type 0
ReportMeetsLimits None = Unit {0}
ReportMeetsLimits (Some report) = PrefixMeetsLimits 512 report.prefix

pub record SpecMeetsLimits (spec : JobSpec) : Type 0 where
  pub token : IsTrue (is_token spec.token)
  pub priority : spec.priority ≤ 2147483647
  pub operation : OperationMeetsLimits spec.operation
  pub version : OptionIdMeetsLimits spec.manifest.version
  pub report : ReportMeetsLimits spec.report

-- each of its fields meets its rule
abbrev pub IsPrefix : ℕ → Option (List ℕ) → Type 0
IsPrefix most None = Unit {0}
IsPrefix most (Some prefix) = IsTrue (is_prefix most prefix)

abbrev pub IsOperation : Operation → Type 0
IsOperation (operation.Copy target prefix) = IsTrue (is_bucket_name target) × IsPrefix 1024 prefix
IsOperation (operation.Tagging tags) = IsTrue (is_tag_set tags)
IsOperation (operation.Hold hold) = Unit {0}
IsOperation operation.Replicate = Unit {0}

pub record IsManifest (manifest : ManifestSpec) : Type 0 where
  pub bucket : IsTrue (is_bucket_name manifest.bucket)
  pub key : IsTrue (is_key manifest.key)
  pub version : OptionIdMeetsLimits manifest.version

abbrev pub IsReport : Option ReportSpec → Type 0
IsReport None = Unit {0}
IsReport (Some report) = IsTrue (is_bucket_name report.bucket) × IsPrefix 512 report.prefix

pub record IsJobSpec (spec : JobSpec) : Type 0 where
  pub token : IsTrue (is_token spec.token)
  pub priority : spec.priority ≤ 2147483647
  pub operation : IsOperation spec.operation
  pub manifest : IsManifest spec.manifest
  pub report : IsReport spec.report
