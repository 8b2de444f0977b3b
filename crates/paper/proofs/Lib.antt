-- What is shown of the shipped rules themselves.
pub mod ShippedLaws
pub mod Demand2
