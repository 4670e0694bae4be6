pub mod Zone
pub mod Signature
pub mod Text
pub mod inner
