pub mod Calls
pub mod Exactly
