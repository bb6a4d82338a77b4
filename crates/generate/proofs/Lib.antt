-- Laws behind the proofs of the program's loop, and the promise.
pub mod Steps
pub mod Piecing
pub mod Promises
