-- The forms of lines as definitions, what a reader and a writer owe them, how an input is cut into lines, and when a word is reported.
pub mod Decimal
pub mod Forms
pub mod Printout
pub mod Clauses
pub mod Splitting
pub mod Search
pub mod Inner
pub mod Promises
pub mod Examples
pub mod SearchExamples
