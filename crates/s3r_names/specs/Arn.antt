-- Which text is the ARN of a bucket or an object.
use Rattle.std.specs.Prelude.{ℕ, ◌+◌, ◌==◌, ◌&&◌, if◌then◌else◌, nat_eq, List, ◌∷◌, ◌++◌, take, drop, position, Option, Some, None, codes}
use Rattle.std.specs.List.{starts_with}
use Rattle.s3r_names.specs.Bucket.{is_bucket_name}
use Rattle.s3r_names.specs.Key.{is_key}
use Rattle.s3r_names.specs.declared.arn.Arn.{Arn}
use Rattle.s3r_names.specs.declared.arn.Arn.TheVariants.{Bucket, Object}

abbrev pub arn_prefix : List ℕ
arn_prefix = codes "arn:aws:s3:::"

abbrev pub bucket_arn : List ℕ → Option Arn
bucket_arn name = if is_bucket_name name then Some (Bucket name) else None

abbrev pub object_arn : List ℕ → List ℕ → Option Arn
object_arn name key = if is_bucket_name name && is_key key then Some (Object name key) else None

-- what stands behind the prefix: a name, and a key behind the first slash where there is one
abbrev pub arn_at : Option ℕ → List ℕ → Option Arn
arn_at None bytes = bucket_arn bytes
arn_at (Some slash) bytes = object_arn (take slash bytes) (drop (slash + 1) bytes)

abbrev pub named_by : List ℕ → Option Arn
named_by bytes = arn_at (position (λ byte. byte == 47) bytes) bytes

-- what the text names
abbrev pub arn_of : List ℕ → Option Arn
arn_of text = if starts_with nat_eq text arn_prefix then named_by (drop 13 text) else None

-- the text that names it
abbrev pub arn_text : Arn → List ℕ
arn_text (Bucket name) = arn_prefix ++ name
arn_text (Object name key) = arn_prefix ++ (name ++ 47 ∷ key)
