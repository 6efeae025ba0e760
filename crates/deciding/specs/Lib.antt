pub mod Masked
pub mod Slots
pub mod Delegates
