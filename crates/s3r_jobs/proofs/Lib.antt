pub mod PlaceLemmas
pub mod OrderLemmas
pub mod TurnLemmas
pub mod SameLemmas
