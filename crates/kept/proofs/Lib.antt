pub mod Same
pub mod Swept
pub mod Marked
