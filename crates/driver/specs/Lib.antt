-- What the driver's clauses cite.
pub mod Inner
pub mod Batches
