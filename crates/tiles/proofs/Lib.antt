-- The laws that both grids share, one file a subject.
pub mod Turns
pub mod Places
pub mod Leaves
pub mod Checked
