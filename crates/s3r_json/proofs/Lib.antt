pub mod Readings
pub mod Lists
pub mod Printed
pub mod BodyExamples
