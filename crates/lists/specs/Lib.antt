-- Exception lists. First the definitions, which are what a reader must believe: how a list is read, its bytes, and what calls give.
pub mod Lists
pub mod ListBytes
pub mod Calls
-- Then demand 2 with a list, what else a list changes and leaves, accepted lists one to one with words and their stems, and samples.
pub mod CallsLaws
pub mod ListedWords
pub mod ExceptLaws
pub mod Correspondence
pub mod ListSamples
-- What the code tells of any bytes, and its laws: one record, reading record by record, the check, the search
pub mod Searches
pub mod EntryLaws
pub mod ListSteps
pub mod CheckLaws
pub mod ReadBack
pub mod SplitLists
pub mod SearchLaws
pub mod Searching
