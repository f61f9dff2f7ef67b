pub mod Edges
pub mod Counts
pub mod Exactly
pub mod NoneKept
