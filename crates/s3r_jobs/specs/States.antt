-- What a state says of a job.
use Rattle.std.specs.Prelude.{Bool, true, false}
use Rattle.s3r_jobs.specs.declared.state.JobState.{JobState}
use Rattle.s3r_jobs.specs.declared.state.JobState.TheVariants.{New, Preparing, Suspended, Ready, Active, Pausing, Paused, Cancelling, Failing, Complete, Cancelled, Failed}

-- ---- each stage's states

abbrev pub is_unprepared : JobState → Bool
is_unprepared New = true
is_unprepared Preparing = true
is_unprepared state = false

abbrev pub is_prepared : JobState → Bool
is_prepared Suspended = true
is_prepared Ready = true
is_prepared state = false

abbrev pub is_under_way : JobState → Bool
is_under_way Active = true
is_under_way Pausing = true
is_under_way Paused = true
is_under_way state = false

abbrev pub is_stopping : JobState → Bool
is_stopping Cancelling = true
is_stopping Failing = true
is_stopping state = false

abbrev pub has_ended : JobState → Bool
has_ended Complete = true
has_ended Cancelled = true
has_ended Failed = true
has_ended state = false

-- ---- what its turn is for

abbrev pub is_new : JobState → Bool
is_new New = true
is_new state = false

abbrev pub is_preparing : JobState → Bool
is_preparing Preparing = true
is_preparing state = false

abbrev pub is_active : JobState → Bool
is_active Active = true
is_active state = false

abbrev pub is_pausing : JobState → Bool
is_pausing Pausing = true
is_pausing state = false

-- no other job may begin meanwhile
abbrev pub is_running : JobState → Bool
is_running Active = true
is_running Pausing = true
is_running state = false

-- to begin, or to go on
abbrev pub is_waiting : JobState → Bool
is_waiting Ready = true
is_waiting Paused = true
is_waiting state = false
