pub mod Fitting
pub mod Lent
