-- What the proofs of several functions use.
mod After
mod Clauses
pub mod Whole
