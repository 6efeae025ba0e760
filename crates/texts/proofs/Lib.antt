pub mod Starting
pub mod Single
pub mod Cutting
