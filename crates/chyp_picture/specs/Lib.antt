pub mod Crossings
pub mod Limits
pub mod Picture
