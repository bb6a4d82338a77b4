-- Why the functions meet their contracts, and laws of sums.
pub mod Wrapping
pub mod Reporting
