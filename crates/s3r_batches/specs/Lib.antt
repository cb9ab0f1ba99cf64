pub mod Turns
pub mod JobLaws
