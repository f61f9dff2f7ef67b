-- The laws of a frame's settings and checks, one file a subject.
pub mod Ranges
pub mod Accepted
