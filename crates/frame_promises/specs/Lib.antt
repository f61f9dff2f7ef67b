-- The tests of a frame in document 01's order, how many samples it stores at most, and what it was before cells could be kept.
pub mod Exactly
pub mod Counts
pub mod NoneKept
