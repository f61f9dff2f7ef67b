pub mod Agree
pub mod Columns
pub mod OneCell
mod Plain
