-- Laws behind the proofs of the program's loop.
pub mod Keeping
pub mod Threading
pub mod History
pub mod Reporting
