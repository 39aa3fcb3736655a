pub mod Fresh
pub mod Answered
pub mod Room
pub mod Refusals
mod Obeyed
mod Turns
mod Begins
pub mod Unique
mod Examples
