pub mod Sizes
pub mod Answers
pub mod Generator
pub mod Register
