-- Why the functions meet their contracts, and laws of loads.
pub mod Halves
pub mod Choosing
pub mod Choices
pub mod Turns
pub mod Going
