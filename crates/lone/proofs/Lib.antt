pub mod Accepted
pub mod Promises
pub mod Exactly
