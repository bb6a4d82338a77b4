-- Why the plan's functions meet their contracts, and what the numbers of a message say of it.
pub mod PlanWords
pub mod PlanLaws
pub mod MessageLaws
