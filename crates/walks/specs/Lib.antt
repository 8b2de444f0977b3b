-- Document 01, "Walking". First the definitions: the walk, and what a table must be for it: faithful to its groups.
pub mod Walk
pub mod Faithful
pub mod Ends
-- The groups of 01's examples of a table
pub mod Samples
-- Then that any faithful table walks as its groups are read, and what that rests on.
pub mod FaithfulWalks
pub mod DeepestLaws
pub mod TailLaws
pub mod EndsLaws
-- The walk one step at a time, as code takes it
pub mod PickLaws
pub mod WalkSteps
