-- What is shown of the indexes of the shipped groups.
pub mod Step2
