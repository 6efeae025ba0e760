pub mod View
pub mod Neat
pub mod Weighed
