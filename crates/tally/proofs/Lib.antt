-- What `proofs/` holds: the laws on counting.
pub mod Counting
