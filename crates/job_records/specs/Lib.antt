pub mod Records
pub mod Finds
