pub mod First
pub mod Checks
pub mod Exactly
pub mod Rows
pub mod Ranges
pub mod Bytes
