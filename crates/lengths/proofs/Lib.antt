pub mod Picks
pub mod Lengths
pub mod Inside
