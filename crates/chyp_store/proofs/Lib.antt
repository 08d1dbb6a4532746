pub mod Apart
pub mod Listings
pub mod Rows
pub mod Stores
