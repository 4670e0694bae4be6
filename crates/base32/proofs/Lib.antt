-- What several proofs use, here and above.
pub mod Groups
pub mod RoundTrip
pub mod Spare
