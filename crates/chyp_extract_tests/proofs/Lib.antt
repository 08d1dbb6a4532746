pub mod First
pub mod Fitting
