pub mod PairLists
pub mod Tables
