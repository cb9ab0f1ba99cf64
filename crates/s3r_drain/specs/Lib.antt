pub mod Drain
pub mod CleanTurns
