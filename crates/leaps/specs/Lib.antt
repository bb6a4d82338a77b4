-- What the contracts cite, and that quiet ticks only add.
pub mod Leaps
