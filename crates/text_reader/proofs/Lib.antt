pub mod Steps
pub mod Turns
pub mod Zones
pub mod Marks
pub mod Whole
pub mod One
pub mod Named
