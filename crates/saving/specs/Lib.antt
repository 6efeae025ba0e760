pub mod Canonical
pub mod RoundTrip
pub mod Places
