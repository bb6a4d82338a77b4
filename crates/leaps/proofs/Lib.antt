-- Why the functions meet their contracts, and what their callers want of them.
pub mod Clocks
pub mod Waiting
pub mod Resting
pub mod Leaping
