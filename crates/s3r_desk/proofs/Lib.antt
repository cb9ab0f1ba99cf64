pub mod Places
pub mod Knowing
pub mod Advancing
pub mod Stepping
pub mod Keeps
pub mod Touched
pub mod Causes
pub mod CommitsMade
pub mod Locations
mod NewJobs
pub mod Disagreeing
mod AnswersMade
pub mod Coming
mod Responding
pub mod Ids
pub mod PlacedRules
pub mod Leaving
pub mod Careful
pub mod Agreeing
pub mod Licensed
mod CopyDue
pub mod CopyCareful
pub mod RoundLemmas
pub mod TurnsCareful
mod CopyStores
mod CopyCarrying
mod CopyCounts
mod CopyTurning
mod CopyWhole
mod StepCounts
pub mod OneStore
pub mod OneTouch
pub mod OneCommit
mod CopyAccepted
mod CopyDelivery
mod BetweenTwo
mod StoreJobs
mod JobTurning
mod OfJobs
mod Works
mod MadeTurns
