pub mod Curves
pub mod Escapes
pub mod Frames
