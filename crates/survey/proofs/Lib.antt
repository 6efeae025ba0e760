pub mod First
pub mod Fixed
pub mod Askable
