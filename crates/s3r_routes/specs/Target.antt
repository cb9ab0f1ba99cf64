-- What the target of a request names.
use Rattle.std.specs.Prelude.{ℕ, ◌+◌, ◌==◌, if◌then◌else◌, nat_eq, List, [], ◌∷◌, take, drop, position, Option, Some, None, codes}
use Rattle.std.specs.List.{starts_with}
use Rattle.std.specs.Str.{bytes_eq}

-- the bytes before this place, and those behind it
abbrev pub cut_at : Option ℕ → List ℕ → List ℕ × Option (List ℕ)
cut_at None bytes = (bytes, None)
cut_at (Some place) bytes = (take place bytes, Some (drop (place + 1) bytes))

-- what stands before the first such byte, and what behind it
abbrev pub cut : ℕ → List ℕ → List ℕ × Option (List ℕ)
cut byte bytes = cut_at (position (λ b. b == byte) bytes) bytes

-- up to the first `?`
abbrev pub path_of : List ℕ → List ℕ
path_of target = (cut 63 target).0

abbrev pub or_nothing : Option (List ℕ) → List ℕ
or_nothing None = []
or_nothing (Some bytes) = bytes

-- behind the first `?`
abbrev pub query_of : List ℕ → List ℕ
query_of target = or_nothing (cut 63 target).1

-- what a path names
pub data Target : Type 0 where
  bucket : (name : List ℕ) → Target
  -- the key as it was written
  object : (name key : List ℕ) → Target
  jobs : Target
  job : (id : List ℕ) → Target
  job_priority : (id : List ℕ) → Target
  job_status : (id : List ℕ) → Target
  copy : Target
  job_turn : Target
  work : Target
  check : Target

abbrev pub job_part : List ℕ → Option (List ℕ) → Option Target
job_part [] word = None
job_part (byte ∷ id) None = Some (job (byte ∷ id))
job_part (byte ∷ id) (Some word) =
    if bytes_eq word (codes "priority") then Some (job_priority (byte ∷ id)) else
    (if bytes_eq word (codes "status") then Some (job_status (byte ∷ id)) else None)

-- a job's id, and perhaps what is asked of it
abbrev pub job_in : List ℕ → Option Target
job_in bytes = let parts = cut 47 bytes in job_part parts.0 parts.1

-- the paths of jobs, without their first slash
abbrev pub job_place : List ℕ → Option Target
job_place path = if bytes_eq path (codes "v20180820/jobs") then Some jobs else
    (if starts_with nat_eq path (codes "v20180820/jobs/") then job_in (drop 15 path) else None)

-- the product's own paths, without their first slash
abbrev pub own_place : List ℕ → Option Target
own_place path =
    if bytes_eq path (codes "_s3r/copy") then Some copy
    else (if bytes_eq path (codes "_s3r/job") then Some job_turn else (if bytes_eq path (codes "_s3r/work") then Some work else
    (if bytes_eq path (codes "_s3r/check") then Some check else None)))

abbrev pub named : List ℕ → Option (List ℕ) → Target
named name None = bucket name
named name (Some []) = bucket name
named name (Some (byte ∷ key)) = object name (byte ∷ key)

-- a bucket, or an object in it
abbrev pub named_in : List ℕ → Target
named_in path = let parts = cut 47 path in named parts.0 parts.1

abbrev pub or_else : Option Target → Option Target → Target → Target
or_else (Some place) other last = place
or_else None (Some place) last = place
or_else None None last = last

-- what the bytes behind the first slash name
abbrev pub place_in : List ℕ → Option Target
place_in [] = None
place_in (byte ∷ path) = Some (or_else (job_place (byte ∷ path)) (own_place (byte ∷ path)) (named_in (byte ∷ path)))

-- None where the path doesn't begin with a slash, or is no more than that
unfoldable pub place_of : List ℕ → Option Target
place_of [] = None
place_of (first ∷ path) = if first == 47 then place_in path else None
