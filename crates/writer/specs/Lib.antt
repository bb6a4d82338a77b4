-- What the writer's clauses cite.
pub mod Stamps
pub mod Setups
