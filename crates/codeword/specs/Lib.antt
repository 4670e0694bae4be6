pub mod Meanings
pub mod Sizes
pub mod Reading
pub mod Corners
pub mod Characters
pub mod Numbered
pub mod Pads
pub mod Best
