pub mod Tracked
pub mod Truth
pub mod Turning
pub mod Ruling
pub mod Takings
pub mod Candidates
pub mod Settling
pub mod Concluding
