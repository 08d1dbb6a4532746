pub mod Halves
pub mod Lists
pub mod Sorting
pub mod Fronts
pub mod Places
pub mod Capped
pub mod Tallies
