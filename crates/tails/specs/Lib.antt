-- The endings that stand before a rule in its group.
pub mod Earlier
