mod Places
mod BucketView
mod Given
mod Sends
mod Waits
mod Tasks
mod Receives
mod Steps
mod Prescribed
mod KeptJobs
mod FoundJobs
mod Applied
mod AboutJobs
mod LineWrites
pub mod Views
mod Received
pub mod Counts
