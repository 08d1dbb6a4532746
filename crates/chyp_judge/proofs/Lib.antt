pub mod Tried
pub mod Giving
pub mod Walking
pub mod Partnering
pub mod Tracing
