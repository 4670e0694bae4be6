-- What several proofs use.
pub mod Parts
pub mod Writes
pub mod Named
