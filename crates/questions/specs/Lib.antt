pub mod Naming
pub mod Statics
pub mod Inquired
