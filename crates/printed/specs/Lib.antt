-- A text of lines, said by printing them; then what follows for any lines that some reader reads back.
pub mod Printed
pub mod PrintedLaws
pub mod LineNumbers
