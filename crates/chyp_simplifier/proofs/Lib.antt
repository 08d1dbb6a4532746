pub mod Rules
pub mod Rounds
pub mod Runs
