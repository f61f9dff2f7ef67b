pub mod Blocks
pub mod Ranged
pub mod Lengths
pub mod Accepted
pub mod Everywhere
pub mod Theorems
pub mod Exactly
