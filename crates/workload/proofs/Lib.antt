-- Why loads keep what is promised of them.
pub mod Endings
pub mod Lasting
pub mod Pieces
pub mod Making
pub mod Following
pub mod Stages
pub mod Refusals
pub mod Handing
pub mod Promises
