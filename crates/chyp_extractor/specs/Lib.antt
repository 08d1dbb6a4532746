pub mod Joining
pub mod Rounds
pub mod Fronts
pub mod Crossing
pub mod Measures
pub mod Tally
