pub mod Posing
