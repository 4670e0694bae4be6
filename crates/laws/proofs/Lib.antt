-- The theorems that span layers: covering and the round trips. `Whole` has the statements for whole texts. `Keeps`: dictionaries that grow.
pub mod Pieces
pub mod Covers
pub mod Rows
pub mod Back
pub mod Signatures
pub mod Heads
pub mod Small
pub mod Whole
pub mod There
pub mod Keeps
pub mod Printed
pub mod Starred
