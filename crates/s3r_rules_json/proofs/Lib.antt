pub mod Lawful
pub mod Drafting
pub mod Printed
