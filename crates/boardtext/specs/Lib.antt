pub mod Canonical
pub mod Reopening
