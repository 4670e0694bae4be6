pub mod File
pub mod Opening
pub mod Plain
pub mod Promise
pub mod Runs
pub mod Answers
pub mod Pieces
pub mod Opens
