pub mod Inputs
pub mod Progress
pub mod Project
pub mod Order
