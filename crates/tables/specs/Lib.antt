pub mod View
pub mod Rows
pub mod Calls
pub mod Fresh
