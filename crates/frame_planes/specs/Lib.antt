pub mod Fit
pub mod Ran
