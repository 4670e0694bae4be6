pub mod Decimal
pub mod Joined
