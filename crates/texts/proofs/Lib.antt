-- What rests on what becomes of each piece of a text.
pub mod TextsLaws
pub mod OutcomeLaws
pub mod Demand2Texts
pub mod ListedLaws
-- What the proofs of this crate's functions share.
mod Small
mod Turn
