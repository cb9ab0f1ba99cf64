pub mod Bodies
pub mod Members
pub mod Status
pub mod Tags
