pub mod Fields
pub mod JobExamples
