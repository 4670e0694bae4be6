-- What several proofs use, here and above.
pub mod Counts
pub mod Walk
pub mod Totals
pub mod Low
pub mod Week
pub mod Order
