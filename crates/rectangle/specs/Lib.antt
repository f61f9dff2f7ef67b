-- The words in which this crate's functions speak, what the entry states, and its tests in their order.
pub mod Cut
pub mod Stated
pub mod Exactly
