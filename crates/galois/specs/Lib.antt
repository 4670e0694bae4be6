pub mod Field
pub mod Polynomial
pub mod Words
pub mod Tables
pub mod Places
