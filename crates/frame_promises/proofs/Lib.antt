-- The laws of a frame's answer, one file a subject.
pub mod Answers
pub mod Theorems
pub mod Lengths
pub mod Planes
pub mod Edges
pub mod Counts
pub mod Accepts
pub mod OneTile
pub mod Kept
pub mod NoneKept
