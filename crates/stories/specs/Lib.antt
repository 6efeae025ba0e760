pub mod Numbered
pub mod View
pub mod Calls
pub mod Told
