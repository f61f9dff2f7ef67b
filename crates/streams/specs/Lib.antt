-- What `specs/` holds: the shapes of a stream's planes, and the marks of their kept cells.
pub mod Shaped
pub mod Kept
