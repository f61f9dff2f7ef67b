-- The laws of a frame, one file a subject.
pub mod Given
pub mod Grids
pub mod Accepted
pub mod Ways
