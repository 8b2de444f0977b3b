-- What the proofs of this crate's functions share.
mod Scan
