pub mod Exchanges
pub mod Marks
pub mod There
pub mod Whole
pub mod One
