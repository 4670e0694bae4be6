pub mod Cost
pub mod Write
