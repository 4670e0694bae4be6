pub mod Keeps
pub mod Theorems
