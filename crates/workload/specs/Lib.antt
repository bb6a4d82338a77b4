-- What the contracts cite, and what is promised of loads.
pub mod Clauses
pub mod Promises
