pub mod Lists
pub mod Checks
pub mod Stated
pub mod Exactly
