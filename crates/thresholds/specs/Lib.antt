pub mod Index
pub mod ByQindex
pub mod Exactly
