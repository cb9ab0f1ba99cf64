-- What header lines of a request say.
use Rattle.std.specs.Prelude.{ℕ, Bool, true, false, if◌then◌else◌, List, [], find, Option, Some, None, option_map, Result, Ok, Err, codes}
use Rattle.std.specs.Str.{bytes_eq}
use Rattle.s3r_names.specs.declared.tags.Tag.{Tag}
use Rattle.s3r_names.specs.Tags.{is_tag_list, in_key_order}
use Rattle.s3r_names.specs.Query.{query_tags}
use Rattle.s3r_names.specs.Class.{is_class_name}
use Rattle.s3r_http.specs.declared.message.Field.{Field}
use Rattle.s3r_http.specs.declared.message.RawRequest.{RawRequest}
use Rattle.s3r_http.specs.Lines.{is_alike}
use Rattle.s3r_api.specs.declared.problem.Problem.{Problem}
use Rattle.s3r_api.specs.declared.problem.Problem.TheVariants.{InvalidQuery, InvalidTag, InvalidHold, InvalidStorageClass}

-- the value of the first line of this name
abbrev pub first_line : List ℕ → RawRequest → Option (List ℕ)
first_line name raw = option_map (λ (field : Field). field.value) (find (λ (field : Field). is_alike field.name name) raw.fields)

abbrev pub lock_word : Option (List ℕ) → Result Bool Problem
lock_word None = Ok false
lock_word (Some word) = if is_alike word (codes "true") then Ok true else (if is_alike word (codes "false") then Ok false else Err InvalidQuery)

-- a new bucket has Object Lock
abbrev pub locked_by : RawRequest → Result Bool Problem
locked_by raw = lock_word (first_line (codes "x-amz-bucket-object-lock-enabled") raw)

abbrev pub tags_in : Option (List ℕ) → Result (List Tag) Problem
tags_in None = Ok []
tags_in (Some form) = if is_tag_list (query_tags form) then Ok (in_key_order (query_tags form)) else Err InvalidTag

-- the tags of a new version
abbrev pub tags_by : RawRequest → Result (List Tag) Problem
tags_by raw = tags_in (first_line (codes "x-amz-tagging") raw)

abbrev pub hold_word : Option (List ℕ) → Result Bool Problem
hold_word None = Ok false
hold_word (Some word) = if bytes_eq word (codes "ON") then Ok true else (if bytes_eq word (codes "OFF") then Ok false else Err InvalidHold)

-- a new version is held
abbrev pub hold_by : RawRequest → Result Bool Problem
hold_by raw = hold_word (first_line (codes "x-amz-object-lock-legal-hold") raw)

abbrev pub class_in : Option (List ℕ) → Result (List ℕ) Problem
class_in None = Ok (codes "STANDARD")
class_in (Some name) = if is_class_name name then Ok name else Err InvalidStorageClass

-- the storage class of a new version
abbrev pub class_by : RawRequest → Result (List ℕ) Problem
class_by raw = class_in (first_line (codes "x-amz-storage-class") raw)
