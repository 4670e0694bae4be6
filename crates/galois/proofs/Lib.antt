pub mod Sums
pub mod Products
pub mod Powers
pub mod Values
pub mod Vandermonde
