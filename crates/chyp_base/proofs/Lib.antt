pub mod KnownBytes
pub mod SortEquality
