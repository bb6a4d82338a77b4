-- Laws of what a call leaves, which the crates above cite too, and of a buffer that is filled.
pub mod Moves
pub mod Reading
