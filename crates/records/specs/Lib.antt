-- Document 01, "The sheet": one record. First the definitions: its frame, the kinds, what the code answers, and its bytes.
pub mod Framing
pub mod Records
pub mod RecordAnswers
pub mod RecordBytes
pub mod Outcomes
-- Laws of frames, of the kinds, of bodies read and written, and of the record at a place
pub mod FramingLaws
pub mod RecordLaws
pub mod FrameCases
pub mod GateLaws
pub mod RuleLaws
pub mod WrittenRules
pub mod ReadRecords
pub mod RecordPlaces
