-- The promises of specs/Promises.antt, passed on from the files that show them. Assumes nothing.
pub use Rattle.workload.proofs.Following.{load-accepted, load-leads}
pub use Rattle.workload.proofs.Handing.{generated-accepted}
pub use Rattle.workload.proofs.Endings.{load-refused, load_fits, further-fits, further-ends}
pub use Rattle.workload.proofs.Refusals.{load-ends, substitutes-overdue}
pub use Rattle.workload.proofs.Pieces.{pieces-join, first-pieces-join}
