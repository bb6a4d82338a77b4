-- What the reader's clauses cite.
pub mod Bytes
pub mod Scan
pub mod Decimals
pub mod Lines
pub mod Examples
