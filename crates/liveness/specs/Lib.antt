-- What is promised of the definitions, and a run to which it applies.
pub mod Promises
pub mod Traffic
pub mod Unread
pub mod Carrying
pub mod Live
pub mod Holding
