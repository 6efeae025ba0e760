pub mod Valid
pub mod Checks
pub mod Rules
