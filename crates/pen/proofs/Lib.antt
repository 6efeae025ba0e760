pub mod Join
pub mod Naming
pub mod Canonical
pub mod Sets
pub mod Shapes
