pub mod Judged
pub mod Rewrite
pub mod Walk
pub mod Differences
