pub mod Names
pub mod Stillness
pub mod Making
