-- The names of a target.
use Rattle.std.specs.Prelude.{ℕ, ◌+◌, ◌-◌, ◌*◌, ◌&&◌, nat_le, nat_lt, if◌then◌else◌, List, [], ◌∷◌, length, drop, fold, Bool, Option, Some, None, Result, Ok, Err}
use Rattle.std.specs.Str.{bytes_eq}
use Rattle.percent_encoding.specs.Percent.{percent_decode}
use Rattle.s3r_names.specs.declared.version.VersionId.{VersionId}
use Rattle.s3r_names.specs.Bucket.{is_bucket_name}
use Rattle.s3r_names.specs.Key.{is_key}
use Rattle.s3r_names.specs.Version.{hex_value, version_text}
use Rattle.s3r_routes.specs.declared.fault.RouteFault.{RouteFault}
use Rattle.s3r_routes.specs.declared.fault.RouteFault.TheVariants.{InvalidBucketName, KeyTooLong, InvalidKey, InvalidVersionId}

abbrev pub bucket_named : List ℕ → Result (List ℕ) RouteFault
bucket_named name = if is_bucket_name name then Ok name else Err InvalidBucketName

abbrev pub key_named : List ℕ → Result (List ℕ) RouteFault
key_named key = if nat_lt 1024 (length key) then Err KeyTooLong else (if is_key key then Ok key else Err InvalidKey)

-- a key that is written percent-encoded
abbrev pub key_written : List ℕ → Result (List ℕ) RouteFault
key_written written = key_named (percent_decode written)

abbrev pub or_zero : Option ℕ → ℕ
or_zero None = 0
or_zero (Some n) = n

-- the number that hexadecimal digits spell
abbrev pub hex_number : List ℕ → ℕ
hex_number digits = fold (λ n digit. n * 16 + or_zero (hex_value digit)) 0 digits

abbrev pub first_or_zero : List ℕ → ℕ
first_or_zero [] = 0
first_or_zero (byte ∷ bytes) = byte

-- the one id that these bytes may be the text of
abbrev pub id_like : List ℕ → VersionId
id_like bytes = record { region = first_or_zero bytes - 48; index = hex_number (drop 2 bytes) }

abbrev pub may_be : VersionId → Bool
may_be id = nat_le id.region 7 && nat_le 1 id.index && nat_le id.index 18446744073709551615

-- the version whose id's text this is
abbrev pub version_named : List ℕ → Result VersionId RouteFault
version_named text = if may_be (id_like text) && bytes_eq text (version_text (id_like text)) then Ok (id_like text) else Err InvalidVersionId
