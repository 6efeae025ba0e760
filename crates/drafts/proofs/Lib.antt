pub mod Weighing
pub mod Blank
pub mod Sets
pub mod Properties
