mod Importing
pub mod Lists
pub mod Reading
pub mod Texts
