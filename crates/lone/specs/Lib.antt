pub mod Exactly
pub mod Stated
