-- What the contracts cite.
pub mod Scans
pub mod Setups
pub mod Runs
