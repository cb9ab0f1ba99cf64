mod Fronts
pub mod Passing
mod Careful
pub mod Silent
mod Telling
mod Running
mod Runs
