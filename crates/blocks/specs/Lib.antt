-- What an index of a group is and tells of a word, over any rule list; then the indexes of the shipped groups.
pub mod Blocks
pub mod BlocksLaws
pub mod Indexes
pub mod Named
