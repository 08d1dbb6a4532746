pub mod Imported
pub mod Imports
pub mod Loading
pub mod Statements
