-- Laws of the printout.
pub mod Feeding
pub mod Promises
pub mod Reporting
