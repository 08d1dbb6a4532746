pub mod Printing
pub mod Reading
pub mod Environments
pub mod FirstNames
