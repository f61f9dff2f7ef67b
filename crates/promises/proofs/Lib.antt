pub mod Edges
pub mod Counts
pub mod Exactly
pub mod Witness
pub mod OneTile
pub mod NoneKept
