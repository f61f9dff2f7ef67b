-- The laws of lists of records, and what a walk over one needs.
pub mod Flat
pub mod Entry
pub mod Unique
pub mod Exactly
