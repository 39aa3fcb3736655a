pub mod Run
pub mod Settle
pub mod History
pub mod Demand2
