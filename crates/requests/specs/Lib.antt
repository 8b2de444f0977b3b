-- How the parts of requests and of answers stand in bytes.
pub mod Parts
pub mod Taken
