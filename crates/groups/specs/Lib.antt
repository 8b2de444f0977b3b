-- What the contracts of `groups` cite beside the definitions of `paper` and the tables of `rules`.
pub mod Reads
pub mod ReadsLaws
pub mod Picks
