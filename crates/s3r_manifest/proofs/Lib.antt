pub mod Left
pub mod Meanings
pub mod Records
