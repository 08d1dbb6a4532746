pub mod Rule
pub mod Round
