pub mod Locks
pub mod Taking
pub mod Parts
pub mod Record
pub mod Turns
