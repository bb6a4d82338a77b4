-- Laws of the printout.
pub mod Serving
pub mod Texts
pub mod Gathering
pub mod Batching
pub mod Answering
pub mod Going
