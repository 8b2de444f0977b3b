-- The run of a table on a word. First what it answers, and demand 3.
pub mod RunOutcomes
pub mod Demand3
pub mod AnsweredRuns
-- Then the run step by step: the rules of a group tried, a group's result, the groups one after another, the word's place
pub mod TryLaws
pub mod GroupStepLaws
pub mod WalkingLaws
pub mod WalkAnswers
pub mod RunLaws
