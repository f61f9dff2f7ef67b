-- The laws of this crate's proofs.
pub mod Fronts
pub mod Storing
pub mod Places
pub mod Leaves
pub mod Repeats
pub mod Completing
pub mod Copies
pub mod Parts
pub mod Packing
pub mod Reading
pub mod Texts
pub mod Changing
pub mod Beyond
pub mod Counted
