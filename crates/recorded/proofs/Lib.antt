pub mod Counting
pub mod Recording
