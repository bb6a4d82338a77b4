-- What the contracts cite.
pub mod Inner
pub mod Strides
pub mod Opening
pub mod Clauses
pub mod Demands
