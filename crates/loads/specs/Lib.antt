-- What the contracts cite, and rows.
pub mod Draws
pub mod Loads
pub mod Clauses
pub mod Examples
