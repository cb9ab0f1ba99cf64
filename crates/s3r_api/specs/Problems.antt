-- Why a request isn't one of the desk's.
use Rattle.std.specs.Prelude.{◌≡◌, Option, Some, None, Result, Ok, Err}
use Rattle.s3r_http.specs.declared.message.HttpFault.{HttpFault}
use Rattle.s3r_http.specs.declared.message.HttpFault.TheVariants as fault
use Rattle.s3r_api.specs.declared.problem.Problem.{Problem}
use Rattle.s3r_api.specs.declared.problem.Problem.TheVariants.{InvalidBucketName, KeyTooLong, InvalidKey, InvalidTag, InvalidVersionId, InvalidStorageClass, InvalidQuery, InvalidHold, MalformedJson, InvalidRequest, ConfigurationTooLong, NoSuchRoute, UnknownQuery, WrongMethod, BadHead, HeadTooLong, BadLength, EntityTooLarge, NotImplemented, CutShort, OutOfMemory}

-- What a call returned is what is asked for, unless memory ran out.
abbrev pub Fails : {X : Type 0} → Problem → Result X Problem → Type 0
Fails OutOfMemory asked = Unit {0}
Fails problem asked = asked ≡ Err problem

abbrev pub Gives : {X : Type 0} → Result X Problem → Result X Problem → Type 0
Gives (Ok x) asked = asked ≡ Ok x
Gives (Err problem) asked = Fails problem asked

-- the same of what is seen by a view
abbrev pub GivesBy : {X Y : Type 0} → (X → Y) → Result X Problem → Result Y Problem → Type 0
GivesBy seen (Ok x) asked = asked ≡ Ok (seen x)
GivesBy seen (Err problem) asked = Fails problem asked

-- a problem of a request that was framed, or want of memory
abbrev pub IsOfRequest : Problem → Type 0
IsOfRequest InvalidBucketName = Unit {0}
IsOfRequest KeyTooLong = Unit {0}
IsOfRequest InvalidKey = Unit {0}
IsOfRequest InvalidTag = Unit {0}
IsOfRequest InvalidVersionId = Unit {0}
IsOfRequest InvalidStorageClass = Unit {0}
IsOfRequest InvalidQuery = Unit {0}
IsOfRequest InvalidHold = Unit {0}
IsOfRequest MalformedJson = Unit {0}
IsOfRequest (InvalidRequest rule kind) = Unit {0}
IsOfRequest ConfigurationTooLong = Unit {0}
IsOfRequest NoSuchRoute = Unit {0}
IsOfRequest UnknownQuery = Unit {0}
IsOfRequest WrongMethod = Unit {0}
IsOfRequest OutOfMemory = Unit {0}
IsOfRequest problem = ⊥

-- a refusal to frame a request
abbrev pub problem_of : HttpFault → Option Problem
problem_of fault.BadHead = Some BadHead
problem_of fault.HeadTooLong = Some HeadTooLong
problem_of fault.BadLength = Some BadLength
problem_of fault.EntityTooLarge = Some EntityTooLarge
problem_of fault.NotImplemented = Some NotImplemented
problem_of fault.CutShort = Some CutShort
problem_of fault.Input = None
problem_of fault.OutOfMemory = None
