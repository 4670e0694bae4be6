pub mod Checks
pub mod Zones
pub mod Fills
pub mod Texts
