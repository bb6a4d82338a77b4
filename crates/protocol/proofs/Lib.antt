-- That each transition keeps the invariants, and that the protocol is live.
pub mod Quorum
pub mod HearKeeps
pub mod EnterKeeps
pub mod TickKeeps
pub mod EnterTimed
pub mod TickTimed
pub mod Target
pub mod RunsUp
pub mod RunKeeps
pub mod Opening
pub mod End
