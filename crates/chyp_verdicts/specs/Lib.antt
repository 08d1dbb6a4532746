pub mod Steps
pub mod Judged
pub mod Standing
pub mod Rules
pub mod Texts
pub mod Explained
pub mod Sites
pub mod Bodies
