-- What the proofs of this crate share.
pub mod Classes
pub mod Steps
pub mod Writes
pub mod Endings
