-- What is true of every step.
use Rattle.std.specs.Prelude.{◌≡◌, ℕ, ◌<◌, Bool, true, false, ◌++◌, None, Result}
use Rattle.s3r_world.specs.Image.{Image}
use Rattle.s3r_history.specs.Words.{History}
use Rattle.s3r_history.specs.declared.refusal.Refusal.{Refusal}
use Rattle.s3r_history.specs.declared.refusal.Refusal.TheVariants as refusals
use Rattle.s3r_desk.specs.declared.fault.DeskFault.{DeskFault}
use Rattle.s3r_desk.specs.declared.request.Request.{Request}
use Rattle.s3r_desk.specs.declared.request.Answer.{Answer}
use Rattle.s3r_desk.specs.declared.request.Answer.TheVariants as answer
use Rattle.s3r_desk.specs.Events.{Events, Leads}
use Rattle.s3r_desk.specs.Steps.{Histories, step}
use Rattle.s3r_desk.specs.Careful.{AreAgreed, AreCareful, IsWhatIsKnown, LeadAll}
use Rattle.s3r_desk.specs.Comparing.{disagreement}
use Rattle.s3r_desk.specs.Responds.{IsTurn}

-- a client is told of it
abbrev pub is_told : Refusal → Bool
is_told refusals.NoSuchBucket = true
is_told refusals.BucketAlreadyExists = true
is_told refusals.BucketNotEmpty = true
is_told refusals.NoSuchKey = true
is_told refusals.NoSuchVersion = true
is_told refusals.MethodNotAllowed = true
is_told refusals.AccessDenied = true
is_told refusals.InvalidBucketState = true
is_told refusals.NoReplication = true
is_told refusals.LockNeeded = true
is_told refusals.TooManyBuckets = true
is_told refusals.InvalidLocation = true
is_told refusals.InvalidArgument = true
is_told (refusals.InvalidRequest rule kind) = true
is_told refusals.NoSuchJob = true
is_told refusals.TooManyJobs = true
is_told (refusals.JobStatus from wanted) = true
is_told (refusals.Idempotency id) = true
is_told (refusals.NoSuchRegion region) = false
is_told (refusals.NotNext watermark) = false
is_told (refusals.NotFirst first) = false

abbrev pub may_leave : Answer → Bool
may_leave (answer.Refused why) = is_told why
may_leave answer.Done = true
may_leave (answer.Written id) = true
may_leave (answer.Gone id marker) = true
may_leave (answer.Object object body) = true
may_leave (answer.MarkerThere id named) = true
may_leave (answer.TagSet tags) = true
may_leave (answer.Hold hold) = true
may_leave (answer.Versioning enabled) = true
may_leave (answer.Configuration config) = true
may_leave (answer.Listing listing statuses) = true
may_leave (answer.Copied outcome) = true
may_leave (answer.JobMade id) = true
may_leave (answer.JobSet id priority) = true
may_leave (answer.JobMoved id state) = true
may_leave (answer.JobStep outcome) = true
may_leave (answer.Worked summary) = true

-- No request is refused since a region isn't there, or by the number of a task: a configuration's regions are those of
-- buckets that are, and no request asks for a task.
abbrev pub NoRegionIsMissing : Type 0
NoRegionIsMissing = (n : ℕ) (at : Histories) (q : Request) → may_leave (step n at q).reply ≡ true

-- ---- careful events

-- Where each region that is known has that history and they agree, they agree after careful events, whatever became of what is in
-- doubt.
abbrev pub CarefulEventsKeepAgreement : Type 0
CarefulEventsKeepAgreement = (n : ℕ) (before events : Events) (at later : Histories) → AreCareful n before events
    → ((r : ℕ) → r < n → IsWhatIsKnown before r (at r)) → AreAgreed n at → LeadAll n events at later → AreAgreed n later

-- careful events, and careful ones behind them, are careful
abbrev pub CarefulEventsCompose : Type 0
CarefulEventsCompose = (n : ℕ) (before first second : Events) → AreCareful n before first → AreCareful n (first ++ before) second
    → AreCareful n before (second ++ first)

-- and so are the first of them
abbrev pub FirstEventsAreCareful : Type 0
FirstEventsAreCareful = (n : ℕ) (before later earlier : Events) → AreCareful n before (later ++ earlier) → AreCareful n before earlier

-- a region that is known after events has the history to which they lead
abbrev pub WhatIsKnownIsThere : Type 0
WhatIsKnownIsThere = (before events : Events) (r : ℕ) (h k : History) → IsWhatIsKnown before r h → Leads events r h k
    → IsWhatIsKnown (events ++ before) r k

-- What happens at a request is careful, whatever it comes to; the volumes being as they are seen.
abbrev pub TurnsAreCareful : Type 0
TurnsAreCareful = (n : ℕ) (room : ℕ → ℕ) (seen : Image) (before : Events) (request : Request) (result : Result Answer DeskFault) (events : Events)
    → IsTurn n room seen before request result events → AreCareful n before events

-- no two regions that agree are told to disagree
abbrev pub AgreeingIsNotTold : Type 0
AgreeingIsNotTold = (n : ℕ) (at : Histories) → AreAgreed n at → disagreement n at ≡ None
