pub mod Arrivals
pub mod ArrivalLaws
