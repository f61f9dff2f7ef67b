pub mod Fit
pub mod Noted
