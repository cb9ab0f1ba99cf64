mod Counting
mod Orderly
mod OneTurn
mod ManyTurns
mod Agreed
mod Leading
pub mod Undisturbed
