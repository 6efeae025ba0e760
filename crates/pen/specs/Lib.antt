pub mod Puts
pub mod Ascending
pub mod Canon
pub mod Texts
