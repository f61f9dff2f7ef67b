pub mod Signed
pub mod Weights
