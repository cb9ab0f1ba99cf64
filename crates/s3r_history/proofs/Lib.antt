mod HistoryExamples
mod EffectExamples
pub mod JobLists
pub mod JobSteps
pub mod Versions
pub mod Present
pub mod HistoryRows
pub mod LineSteps
pub mod LatestRows
pub mod FirstGreatest
pub mod Unwritten
pub mod Written
pub mod HistoryNames
pub mod ToldSteps
pub mod LineTold
pub mod Receiving
pub mod TaskSteps
pub mod Ahead
pub mod QueueSteps
pub mod Beyond
pub mod Agreeing
pub mod Within
pub mod ShortSends
