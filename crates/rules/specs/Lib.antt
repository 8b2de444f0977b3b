-- What the contracts of `rules` cite beside the definitions of `paper`: a group's rules as a table.
pub mod Rows
pub mod RowsLaws
pub mod Shipped
