pub mod Faults
pub mod Headline
pub mod Output
pub mod Page
pub mod Report
pub mod Reported
pub mod Words
