-- Why the pacemaker's functions meet their contracts, and what their callers want of them.
pub mod LimitLaws
pub mod StepLaws
pub mod TickLaws
pub mod AnswerLaws
