-- The laws of this crate's proofs.
pub mod Filling
pub mod Heading
