pub mod Images
pub mod Numbers
pub mod Layout
pub mod Renumbered
