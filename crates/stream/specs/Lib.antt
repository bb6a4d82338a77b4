-- What the clauses of the program's loop cite, and what is promised of it.
pub mod Threads
pub mod History
pub mod Promises
