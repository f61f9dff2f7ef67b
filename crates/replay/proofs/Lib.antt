pub mod Entries
pub mod Checking
pub mod Exactly
pub mod Theorems
pub mod Marked
