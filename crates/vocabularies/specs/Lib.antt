-- Document 02, W-207. First the definition: what a line is, its text by printing it, and what a call answers.
pub mod Vocabularies
-- Then the reader of one line, as the code reads; that it finds a line exactly where one is printed, and so that every list has one
-- answer, and when it has which; samples.
pub mod Reading
pub mod ReadingLaws
pub mod Answered
pub mod VocabularySamples
-- The stem of a line, and the way through the lines of a list
pub mod StemLaws
pub mod Passing
