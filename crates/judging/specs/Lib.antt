-- Number 7. First the definition: what is said of a sheet and a table.
pub mod Judgements
-- What is seen of a forest when the rules' endings are followed through it: exactly that it is faithful to the groups, and so that it is
-- the layout
pub mod Led
pub mod TailsLed
pub mod EndLaws
pub mod LedLaws
pub mod FaithfulLed
pub mod JudgementLaws
-- The notes that are taken on the way
pub mod Notes
pub mod FollowLaws
pub mod NoteLaws
