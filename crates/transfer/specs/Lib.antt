-- What a call leaves of the bytes that a reader has and a writer holds.
pub mod Moves
