pub mod Fits
pub mod Lengths
mod Opens
mod Starts
mod Steps
pub mod Tested
pub mod Unique
