pub mod Finish
pub mod Weight
pub mod Schedule
