-- The layout that document 01 had before W-206, with chains of siblings. First the definitions: how a chain is walked, and the layout.
pub mod Chains
pub mod Layout
-- Then 01's examples of it, that it is faithful to its groups, and how many nodes it has.
pub mod TableSamples
pub mod LayoutFaithful
pub mod CountLaws
-- What these rest on: nodes, chains, paths
pub mod KinLaws
pub mod PresentLaws
pub mod ChainLaws
pub mod PathLaws
pub mod GrownLaws
pub mod WaysLaws
