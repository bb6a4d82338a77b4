-- The protocol as small transitions, its invariants, and what a run reaches.
pub mod Params
pub mod State
pub mod Base
pub mod Moves
pub mod Timed
pub mod HearTimed
pub mod Pass
pub mod Runs
pub mod RunKeeps
pub mod Opening
pub mod End
