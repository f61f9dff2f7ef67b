-- The laws of a rectangle's keep marks, one file a subject.
pub mod Rows
pub mod Checked
pub mod Theorems
pub mod Exactly
