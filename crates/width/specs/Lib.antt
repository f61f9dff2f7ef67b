pub mod Ends
pub mod Tests
