pub mod RoundTrip
pub mod Noted
