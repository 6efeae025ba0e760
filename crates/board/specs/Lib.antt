pub mod View
pub mod Answers
pub mod Delegates
pub mod Saving
