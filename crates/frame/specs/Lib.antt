pub mod Fit
pub mod Stated
