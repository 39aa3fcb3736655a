pub mod Puts
pub mod Numbers
pub mod Strokes
pub mod Meaning
pub mod Lengths
mod Full
