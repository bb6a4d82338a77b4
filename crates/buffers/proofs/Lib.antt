-- Why the functions of the two buffers meet their contracts.
pub mod NetworkWords
pub mod PackedWords
pub mod Firsts
pub mod Storing
