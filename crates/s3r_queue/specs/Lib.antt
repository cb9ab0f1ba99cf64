pub mod Tasks
pub mod Queues
pub mod Entries
pub mod Received
pub mod Statuses
