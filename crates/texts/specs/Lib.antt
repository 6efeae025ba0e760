pub mod Lengths
pub mod Words
pub mod Answers
pub mod Sentences
pub mod Board
