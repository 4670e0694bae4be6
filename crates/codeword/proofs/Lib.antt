-- What several proofs use.
pub mod Sizes
pub mod Characters
pub mod Pads
