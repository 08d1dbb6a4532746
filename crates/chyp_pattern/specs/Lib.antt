pub mod Component
pub mod Occurrence
pub mod Occurrences
pub mod Pattern
pub mod Placements
pub mod Replacement
pub mod Sweep
