pub mod Dictionary
pub mod Rows
pub mod inner
