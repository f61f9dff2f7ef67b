pub mod Final
pub mod Calls
