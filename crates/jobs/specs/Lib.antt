pub mod Job
pub mod Course
pub mod Prints
pub mod Obeys
