pub mod Bytes
pub mod Calls
pub mod Picks
pub mod Plans
