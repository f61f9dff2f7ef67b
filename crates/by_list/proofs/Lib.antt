pub mod Lists
pub mod States
pub mod Records
