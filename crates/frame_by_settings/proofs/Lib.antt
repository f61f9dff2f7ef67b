-- The laws of this crate's proofs.
pub mod Zeroed
pub mod Refusing
