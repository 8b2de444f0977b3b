-- Document 02, W-202. First the definition: what a line is, and its text by printing it; samples.
pub mod Lines
pub mod LineSamples
-- Then the reader of one line, as the code reads; that it finds a line exactly where one is printed, and so that a text has one reading.
pub mod Reading
pub mod PartLaws
pub mod ReadingLaws
pub mod PrintedLines
pub mod LineFeeds
