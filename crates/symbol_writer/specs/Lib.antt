pub mod Rows
pub mod Moves
pub mod Codewords
pub mod Sizes
pub mod Symbol
pub mod Promise
