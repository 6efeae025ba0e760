pub mod Machine
pub mod Telling
pub mod Viewing
pub mod Opening
