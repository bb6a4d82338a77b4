-- What the contracts cite.
pub mod Events
pub mod Batches
pub mod Examples
