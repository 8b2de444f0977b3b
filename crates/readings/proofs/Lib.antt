-- What the proofs of this crate share.
pub mod Narrow
pub mod Tests
pub mod Reading
