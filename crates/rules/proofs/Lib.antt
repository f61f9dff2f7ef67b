pub mod Depths
pub mod Numbered
