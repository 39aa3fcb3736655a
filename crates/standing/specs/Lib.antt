pub mod Tables
pub mod Partial
pub mod Looks
pub mod Parts
