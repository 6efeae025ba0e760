pub mod Changing
pub mod Delegating
pub mod Instead
pub mod Refusing
pub mod Replying
pub mod Committing
pub mod Reopening
pub mod Storing
