-- What the functions on a word's place leave in it; then what several of them leave, one behind the other.
pub mod Put
pub mod Written
