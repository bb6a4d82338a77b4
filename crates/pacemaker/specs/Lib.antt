-- What the pacemaker's clauses cite.
pub mod Limits
pub mod Steps
