pub mod Port
pub mod Pair
pub mod Following
pub mod Search
pub mod IsIsomorphism
pub mod Scratch
