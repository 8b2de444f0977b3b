-- Tables in bytes.
pub mod Tables
