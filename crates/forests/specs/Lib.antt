-- First the definitions: what is seen of a table by itself, and what is answered of it.
pub mod Forest
pub mod Shapes
-- Laws of forests: how many nodes come before a node's children
pub mod TotalLaws
-- Numbers that rise
pub mod ClimbLaws
-- Which node is the child of a letter
pub mod ForestChildren
-- Each node lies at the end of exactly one path from a root
pub mod ForestPaths
-- A forest is known by its paths
pub mod MeetingLaws
pub mod KnownByPaths
-- A table looked at step by step: its letters, and one node after another
pub mod RisingSteps
pub mod ShapeSteps
