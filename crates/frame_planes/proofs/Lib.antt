-- The laws of a frame's planes.
pub mod Parts
pub mod Counted
