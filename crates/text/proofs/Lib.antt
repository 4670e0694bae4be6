-- What several proofs use.
pub mod Marks
pub mod Signs
