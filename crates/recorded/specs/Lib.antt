pub mod Count
pub mod Stated
