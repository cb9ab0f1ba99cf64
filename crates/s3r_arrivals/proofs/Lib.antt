pub mod Standing
pub mod Receipts
pub mod Ending
pub mod Received
