-- The laws of this crate's proofs.
pub mod Numbered
pub mod Listing
pub mod Placing
pub mod Gating
pub mod Keeping
