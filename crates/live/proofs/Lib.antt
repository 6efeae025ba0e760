pub mod Searching
pub mod Permitting
