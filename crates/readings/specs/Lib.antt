-- What the contracts of `readings` cite beside the definitions of `paper` and the tables of `rules`.
pub mod Steps
