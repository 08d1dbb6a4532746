pub mod Anchoring
mod Examples
pub mod Joined
pub mod Lexicographic
pub mod Listed
pub mod Reached
pub mod Sweeping
