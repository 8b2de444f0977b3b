-- Document 01, "The table": the numbers of a node, and the nodes that a table lays out.
pub mod Children
-- Laws of children, one after another, and of nodes that a table does not have
pub mod ChildLaws
pub mod BeyondLaws
-- Laws of letters that are taken from the last inward
pub mod LettersLeft
-- Laws of what is handed back of a path's end
pub mod FollowLaws
