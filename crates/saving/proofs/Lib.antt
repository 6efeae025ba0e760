pub mod Laying
pub mod Ascends
pub mod Returning
