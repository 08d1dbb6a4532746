pub mod Anchors
pub mod Placements
pub mod Once
pub mod Some
pub mod Contexts
pub mod Derived
pub mod Comparing
