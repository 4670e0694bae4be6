pub mod Lookup
pub mod Equal
