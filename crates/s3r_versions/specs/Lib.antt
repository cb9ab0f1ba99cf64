pub mod Order
pub mod Lookup
pub mod Contents
pub mod Removed
pub mod Listing
pub mod Laws
pub mod PageLaws
