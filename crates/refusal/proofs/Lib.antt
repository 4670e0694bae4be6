-- What several crates use.
pub mod Tests
pub mod Binds
pub mod Over
pub mod Chars
pub mod Among
pub mod Said
pub mod Named
