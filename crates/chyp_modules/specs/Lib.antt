pub mod Library
pub mod Import
pub mod Modules
pub mod Declares
pub mod Laws
pub mod Checking
pub mod Explained
