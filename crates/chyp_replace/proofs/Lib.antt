pub mod Places
pub mod Marking
pub mod Rebinding
pub mod Keeping
pub mod Binding
pub mod Replacing
pub mod Sizes
