-- Document 01, "The sheet". First the definitions: reading a whole sheet, what a check answers, and accepted sheets.
pub mod Sheets
pub mod Checks
pub mod Accepted
pub mod Reads
-- Then the same from the other side, the bytes of a list of groups, and that the two correspond; 01's samples.
pub mod SheetBytes
pub mod Correspondence
pub mod FirstFaulty
pub mod ShippedSheet
pub mod SheetSamples
-- Laws of reading record by record, of reading back what was written, and of writing what was read
pub mod SheetSteps
pub mod ReadBack
pub mod WriteBack
pub mod NodeBounds
-- The way through a sheet, as it is read and as its nodes are counted, by looking back
pub mod SheetPlaces
pub mod ReadLaws
pub mod EarlierRules
pub mod NodeLaws
