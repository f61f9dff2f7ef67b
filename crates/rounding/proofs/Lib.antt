pub mod Shifts
pub mod Within
