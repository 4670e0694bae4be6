-- What several proofs use, here and above.
pub mod Sizes
pub mod Lists
pub mod Live
pub mod Gathered
pub mod Rebuilt
pub mod After
