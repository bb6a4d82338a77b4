-- What the contracts of the two buffers cite, and the laws by which callers read them.
pub mod Zeros
pub mod Tally
pub mod Network
pub mod Kinds
pub mod KindLaws
pub mod WordLaws
