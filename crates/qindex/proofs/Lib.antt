-- The laws of the qindex grid, one file a subject.
pub mod Places
pub mod Shifts
pub mod Checked
pub mod Beyond
pub mod Built
pub mod Unique
pub mod Exactly
