pub mod Squeeze
pub mod Answers
pub mod inner
