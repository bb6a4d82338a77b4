-- Laws behind the proofs of the functions.
pub mod Laying
pub mod ReadBack
pub mod Calling
pub mod Telling
pub mod Carrying
pub mod Loading
pub mod Stepping
pub mod Writing
pub mod KeepsTables
pub mod LoadLines
pub mod Turns
pub mod Demands
pub mod LoadCalls
pub mod Promises
