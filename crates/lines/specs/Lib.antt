pub mod Entries
pub mod Lists
pub mod Languages
pub mod Bodies
pub mod Lines
pub mod Changes
pub mod Readings
pub mod Clauses
