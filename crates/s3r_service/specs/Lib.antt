pub mod Words
pub mod Sends
pub mod Passing
pub mod Turns
pub mod Served
pub mod Serving
pub mod Laws
