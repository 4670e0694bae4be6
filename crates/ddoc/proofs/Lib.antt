-- What the proofs of several functions use.
mod Stored
mod One
