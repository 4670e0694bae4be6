pub mod Tables
pub mod Conformity
pub mod inner
