pub mod Extraction
pub mod Measuring
pub mod Rehalving
pub mod Laws
pub mod Replacing
pub mod Placing
