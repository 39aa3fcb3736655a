pub mod Views
pub mod Record
pub mod Measures
pub mod Counts
pub mod Turns
