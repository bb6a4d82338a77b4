-- Laws behind the proofs of the functions.
pub mod Stamping
pub mod Digits
pub mod Lengths
pub mod Opening
pub mod Writing
pub mod Spacing
pub mod Clocks
pub mod Reporting
