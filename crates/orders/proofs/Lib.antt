pub mod Sweeps
pub mod Plain
pub mod Numbered
pub mod Once
pub mod Accepts
pub mod Bands
