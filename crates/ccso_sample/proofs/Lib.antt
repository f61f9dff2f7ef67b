pub mod Signed
pub mod Classes
pub mod Offsets
pub mod Places
