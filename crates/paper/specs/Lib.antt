-- The paper, read as document 01 reads it. First the definitions, one subject to a file, in 01's order.
pub mod Letters
pub mod Conditions
pub mod Groups
pub mod Shipped
pub mod Words
pub mod Numbered
pub mod Nodes
-- Then 01's samples, demand 2 for words, and when each number is answered.
pub mod WordSamples
pub mod Demand2
pub mod Answered
pub mod Settled
-- Laws of tests and lists
pub mod TestLaws
pub mod ListLaws
-- Laws of letters and measure, of reading a group, of going through groups, and of a call on a word, over any rule list
pub mod LettersLaws
pub mod States
pub mod Noted
pub mod GroupsLaws
pub mod ReadingLaws
pub mod LongerFirst
pub mod FirstFits
pub mod SameEnding
pub mod NumberedLaws
pub mod ChosenLaws
pub mod TurnLaws
pub mod LengthLaws
pub mod SmallLaws
pub mod WordsLaws
-- Laws of the node count
pub mod MemberLaws
pub mod LookBack
pub mod SharedTails
pub mod DistinctLaws
