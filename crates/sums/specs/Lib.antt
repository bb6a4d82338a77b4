-- What a contract cites.
pub mod Held
