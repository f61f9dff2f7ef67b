pub mod Theorems
pub mod Exactly
pub mod OneTile
pub mod Witness
