-- Why the functions meet their contracts.
pub mod Laying
