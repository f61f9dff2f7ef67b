-- What `specs/` holds: how cases are counted.
pub mod Counts
