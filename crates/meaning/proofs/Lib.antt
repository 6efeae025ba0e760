pub mod Tests
pub mod Numbered
