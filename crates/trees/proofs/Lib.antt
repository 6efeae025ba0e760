pub mod Steps
pub mod Build
pub mod Whole
pub mod Turns
pub mod Single
pub mod Leaving
