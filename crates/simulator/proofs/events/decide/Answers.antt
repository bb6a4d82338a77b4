use Rattle.simulator.proofs.Deciding.{named_small, named-at, named-place, named-vc, decides-view, decides-vote, decides-vc, decides-qc, refuses-vc, refuses-qc}
use Rattle.simulator.proofs.Fitness.{seat-sound}
use native.Mathlib.Omega.{arith}
use mathlib.Core.Path.{refl}
use Rattle.std.proofs.lemmas.Result.{err_from_is_err_and}
use Rattle.simulator.proofs.events.decide.Goals as goal

pub react-requires : goal.react-requires
react-requires c = rw c.seat_of-seat.ensures (seat-sound c.args.run.now _ c.requires.0 (rw c.in-Vc.is at c.requires.2), (named-at c.args.run.now.plan c.args.message _ c.in-Vc.is c.requires.1).0, named-vc c.args.run.now.plan _ _ (rw c.in-Vc.is at c.requires.1))

pub react-requires-in-Qc : goal.react-requires-in-Qc
react-requires-in-Qc c = rw c.seat_of-seat-in-Qc.ensures (seat-sound c.args.run.now _ c.requires.0 (rw c.in-Qc.is at c.requires.2), (named-at c.args.run.now.plan c.args.message _ c.in-Qc.is c.requires.1).0, (named-at c.args.run.now.plan c.args.message _ c.in-Qc.is c.requires.1).1)

pub returns-in-View : goal.returns-in-View
returns-in-View c = rw c.in-View.is (decides-view c.args.run.now c.args.tally.now c.requires.0 _ _ _ c.decide_heard.ensures)

pub returns-in-Vote : goal.returns-in-Vote
returns-in-Vote c = rw c.in-Vote.is (decides-vote c.args.run.now c.args.tally.now c.requires.0 _ _ _ c.decide_heard-in-Vote.ensures)

pub returns-in_ok-react-in-Vc : goal.returns-in_ok-react-in-Vc
returns-in_ok-react-in-Vc c = rw c.in-Vc.is (decides-vc c.args.run.now c.args.tally.now c.requires.0 _ (rw c.in-Vc.is at c.requires.2) (named-place c.args.run.now.plan c.args.message _ _ c.requires.0.plan c.in-Vc.is c.requires.1 (omega arith)) (named-place c.args.run.now.plan c.args.message _ 64 c.requires.0.plan c.in-Vc.is c.requires.1 refl) _ (named_small c.args.run.now.plan c.args.message _ c.requires.0.plan c.in-Vc.is c.requires.1) _ (rw (c.seat_of-seat.ensures, c.in_ok-react-in-Vc.was) at c.react.ensures))

pub returns-in_err-react-in-Vc : goal.returns-in_err-react-in-Vc
returns-in_err-react-in-Vc c =
    let p = err_from_is_err_and c.from_residual.result c.from_residual.ensures.1 in
    rw (p.1, p.2, c.in-Vc.is) (refuses-vc c.args.run.now c.args.tally.now c.requires.0 _ (rw c.in-Vc.is at c.requires.2) (named-place c.args.run.now.plan c.args.message _ _ c.requires.0.plan c.in-Vc.is c.requires.1 (omega arith)) (named-place c.args.run.now.plan c.args.message _ 64 c.requires.0.plan c.in-Vc.is c.requires.1 refl) _ (named_small c.args.run.now.plan c.args.message _ c.requires.0.plan c.in-Vc.is c.requires.1) _ (rw (c.seat_of-seat.ensures, c.in_err-react-in-Vc.was) at c.react.ensures))

pub returns-in_ok-react-in-Qc : goal.returns-in_ok-react-in-Qc
returns-in_ok-react-in-Qc c = rw c.in-Qc.is (decides-qc c.args.run.now c.args.tally.now c.requires.0 _ (rw c.in-Qc.is at c.requires.2) (named-place c.args.run.now.plan c.args.message _ _ c.requires.0.plan c.in-Qc.is c.requires.1 (omega arith)) (named-place c.args.run.now.plan c.args.message _ 64 c.requires.0.plan c.in-Qc.is c.requires.1 refl) _ (named_small c.args.run.now.plan c.args.message _ c.requires.0.plan c.in-Qc.is c.requires.1) _ (rw (c.seat_of-seat-in-Qc.ensures, c.in_ok-react-in-Qc.was) at c.react-in-Qc.ensures))

pub returns-in_err-react-in-Qc : goal.returns-in_err-react-in-Qc
returns-in_err-react-in-Qc c =
    let p = err_from_is_err_and c.from_residual-in_err-react-in-Qc.result c.from_residual-in_err-react-in-Qc.ensures.1 in
    rw (p.1, p.2, c.in-Qc.is) (refuses-qc c.args.run.now c.args.tally.now c.requires.0 _ (rw c.in-Qc.is at c.requires.2) (named-place c.args.run.now.plan c.args.message _ _ c.requires.0.plan c.in-Qc.is c.requires.1 (omega arith)) (named-place c.args.run.now.plan c.args.message _ 64 c.requires.0.plan c.in-Qc.is c.requires.1 refl) _ (named_small c.args.run.now.plan c.args.message _ c.requires.0.plan c.in-Qc.is c.requires.1) _ (rw (c.seat_of-seat-in-Qc.ensures, c.in_err-react-in-Qc.was) at c.react-in-Qc.ensures))
