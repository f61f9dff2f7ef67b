pub mod Accepted
pub mod Marks
pub mod Reach
pub mod Tiles
