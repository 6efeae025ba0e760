pub mod Reading
pub mod Builds
pub mod Trees
pub mod Made
