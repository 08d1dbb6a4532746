pub mod Lexemes
pub mod Longest
pub mod Names
pub mod Tokens
