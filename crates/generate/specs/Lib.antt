-- What the clauses of the program's loop cite, and what is promised.
pub mod Pieces
pub mod Promises
