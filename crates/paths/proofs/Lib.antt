pub mod Views
pub mod Other
