-- What the types' own functions answer.
pub mod Quantities
pub mod Messages
pub mod PlanFunctions
pub mod Traffic
pub mod TrafficLaws
pub mod Runs
