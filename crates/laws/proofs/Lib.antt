pub mod Operations
pub mod Machine
pub mod Loops
pub mod Lists
pub mod Stores
pub mod Sums
pub mod Schedules
pub mod Walks
