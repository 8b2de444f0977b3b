-- What the C entries return, and that nothing is lost in it.
pub mod Packed
pub mod PackedLaws
pub mod ListedLaws
pub mod CheckLaws
