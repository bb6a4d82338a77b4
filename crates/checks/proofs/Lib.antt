-- Why the checks meet their contracts, and what their callers want of them.
pub mod Arithmetic
pub mod Tail
pub mod Ranges
pub mod Held
pub mod Nine
pub mod Opens
