pub mod Columns
pub mod Counting
pub mod CrossingNumber
pub mod Ends
pub mod Pairs
