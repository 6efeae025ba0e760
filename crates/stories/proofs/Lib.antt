pub mod Changing
pub mod Only
pub mod Keeping
pub mod Ranging
pub mod Leading
