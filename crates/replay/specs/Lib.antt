pub mod Fit
pub mod Exactly
