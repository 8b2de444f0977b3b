-- What the proofs of this crate share.
pub mod Endings
pub mod Cuts
pub mod Found
pub mod Written
