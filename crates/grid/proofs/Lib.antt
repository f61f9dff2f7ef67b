-- The laws of the TU grid, one file a subject.
pub mod Places
pub mod Painted
pub mod Checked
pub mod Covers
pub mod Beyond
pub mod Built
pub mod Unique
pub mod Exactly
