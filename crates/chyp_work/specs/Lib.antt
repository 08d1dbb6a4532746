pub mod Board
pub mod Filling
pub mod Net
pub mod Replacement
pub mod Rerouting
pub mod Step
