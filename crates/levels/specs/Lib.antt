-- Document 01, "The table", as W-206 amends it. First the definition: the layout by levels; and 01's examples.
pub mod Layout
pub mod TableSamples
-- That the table is faithful to its groups, that its nodes are a forest by levels, and how many there are
pub mod LevelFaithful
pub mod LevelForest
pub mod CountLaws
-- What these rest on: the tails of bounded endings, the nodes behind the roots, the four numbers of a node in its place, and the places
-- and rising letters of its children
pub mod TailBounds
pub mod LevelLaws
pub mod RowLaws
pub mod PlacedLaws
pub mod RisingLaws
pub mod ChildPlaces
pub mod Counted
