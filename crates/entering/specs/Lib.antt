pub mod Laid
pub mod Opening
pub mod Changing
pub mod Places
pub mod Trusting
pub mod Entries
