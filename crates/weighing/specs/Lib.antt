pub mod Standing
pub mod Weighing
