pub mod Pairing
pub mod Pairs
