pub mod Digits
pub mod Taking
pub mod Numbers
pub mod Steps
pub mod Runs
pub mod Complete
pub mod Sound
