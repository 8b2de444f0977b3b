-- Laws of answers that are made of an option.
pub mod Found
