-- What several proofs use.
pub mod Rows
pub mod Greedy
pub mod Output
pub mod Choice
pub mod Whole
pub mod Promise
