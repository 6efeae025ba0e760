pub mod Walking
pub mod Nearest
pub mod Parts
pub mod Listing
pub mod Saying
pub mod Placed
pub mod Surely
