-- What the contracts cite.
pub mod Carries
