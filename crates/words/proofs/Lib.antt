-- Why the functions meet their contracts, and laws for those who apply the words.
pub mod Turning
pub mod Single
