pub mod Sizes
pub mod Signs
pub mod Ramp
pub mod Pairs
