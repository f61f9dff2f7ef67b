pub mod Picks
pub mod Differences
pub mod Averages
pub mod Stands
pub mod Order
pub mod Most
pub mod Agree
