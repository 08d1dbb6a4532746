pub mod First
pub mod Naming
