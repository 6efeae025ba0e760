pub mod Stepping
pub mod Reporting
pub mod Opened
pub mod Answering
