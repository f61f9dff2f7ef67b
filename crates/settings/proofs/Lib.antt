-- The laws of this crate's proofs, and what follows from the definitions.
pub mod Rules
pub mod Taking
pub mod Signs
pub mod Settling
pub mod Stepping
pub mod Walking
pub mod Numbering
pub mod Faults
pub mod Smallest
