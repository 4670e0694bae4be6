pub mod Roots
pub mod Register
pub mod Only
mod Feeding
mod Growing
pub mod Sizes
pub mod Answers
pub mod Promise
pub mod Patching
