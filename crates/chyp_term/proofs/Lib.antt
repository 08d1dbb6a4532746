pub mod Marks
pub mod Permuted
pub mod Closure
pub mod Positions
pub mod Inverses
pub mod Distinct
pub mod Counting
pub mod Inverting
mod Examples
pub mod Deciding
pub mod Apart
pub mod Blocks
pub mod Members
pub mod Ordered
pub mod Rearrangement
pub mod SameMembers
pub mod Slices
pub mod Halving
