pub mod Naming
pub mod Entering
pub mod Walking
pub mod Trusting
pub mod Judging
pub mod Rowing
pub mod Siding
pub mod Assigning
