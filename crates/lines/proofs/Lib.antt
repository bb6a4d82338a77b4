-- Laws behind the proofs of the functions, and what callers want of lines.
pub mod Decimals
pub mod Newlines
pub mod WordTest
pub mod WordBytes
pub mod Reported
pub mod Splitting
pub mod Schedules
pub mod Readings
pub mod Writings
pub mod Putting
pub mod Printing
