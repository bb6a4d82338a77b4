-- What the contracts of the exported functions cite.
pub mod Layout
pub mod Clauses
pub mod Loads
pub mod Traffic
pub mod Carrying
pub mod Promises
pub mod Examples
pub mod StepExamples
pub mod CarryingExamples
