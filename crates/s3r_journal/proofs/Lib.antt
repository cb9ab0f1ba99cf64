mod Bytes
pub mod Elsewhere
mod Finds
pub mod Formats
pub mod Fronts
mod Gated
mod Headers
mod Pieces
mod Tells
pub mod Windows
