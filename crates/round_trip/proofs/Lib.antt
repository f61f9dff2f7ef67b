pub mod RoundTrip
pub mod Promised
