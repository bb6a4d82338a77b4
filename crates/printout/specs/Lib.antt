-- What the simulate program and the traffic program print, as definitions, and what functions owe to them.
pub mod Printout
pub mod Traffic
pub mod Clauses
pub mod Promises
pub mod Examples
