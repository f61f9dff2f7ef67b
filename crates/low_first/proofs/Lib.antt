pub mod RoundTrip
pub mod Fills
