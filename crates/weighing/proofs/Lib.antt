pub mod Judging
pub mod Asked
pub mod Failing
pub mod Concluding
pub mod Surely
pub mod Granted
