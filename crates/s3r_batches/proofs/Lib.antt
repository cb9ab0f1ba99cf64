pub mod Each
pub mod Manifests
pub mod StateLemmas
pub mod Sound
pub mod Tokens
pub mod Steps
