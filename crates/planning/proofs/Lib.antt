pub mod Masking
pub mod Slotting
pub mod Rowing
pub mod Hiring
pub mod Named
pub mod Planning
