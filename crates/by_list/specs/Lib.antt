pub mod Planes
pub mod Grids
pub mod Records
pub mod Rectangles
pub mod Rows
pub mod Frames
