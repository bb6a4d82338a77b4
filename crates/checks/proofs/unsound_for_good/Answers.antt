use Rattle.checks.proofs.Nine.{by-limits, by-clocks, by-room, by-messages, by-settling, by-tail}
use Rattle.checks.proofs.Held.{some-flying}
use Rattle.model.specs.State.{State, state_in, capacity}
use borrow.Author.Tests.{lt-ltb, le-ltb}
use Rattle.std.proofs.Common.{rules}
use native.Mathlib.Omega.{arith}
use mathlib.Core.Path.{sym, ap, ◌∙◌}
use Prim.Native.Nat.{ℕ, ◌*◌}
use lib.ListN.{drop}
use Rattle.model.specs.Checks.{some_non_zero}
use Rattle.checks.proofs.unsound_for_good.Goals as goal

pub returns-in_default : goal.returns-in_default
returns-in_default c = let s : State = state_in c.args.form c.args.run.now c.args.tally.now c.args.network.now in
    by-limits s c.in_default.ensures

pub returns-then-clocks_unsound : goal.returns-then-clocks_unsound
returns-then-clocks_unsound c = let s : State = state_in c.args.form c.args.run.now c.args.tally.now c.args.network.now in
    by-clocks s c.in-Some.ensures.0 (sym c.clocks_unsound.ensures ∙ c.if-clocks_unsound.true)

pub returns-then-capacity-run : goal.returns-then-capacity-run
returns-then-capacity-run c = let s : State = state_in c.args.form c.args.run.now c.args.tally.now c.args.network.now in
    by-room s c.in-Some.ensures.0 (sym c.clocks_unsound.ensures ∙ c.if-clocks_unsound.false) (lt-ltb (capacity c.args.form c.args.network.now) c.args.run.now.held (omega (arith, c.capacity.ensures, c.if-capacity-run.true)))

pub returns-then-messages_unsound : goal.returns-then-messages_unsound
returns-then-messages_unsound c = let s : State = state_in c.args.form c.args.run.now c.args.tally.now c.args.network.now in
    by-messages s c.in-Some.ensures.0 (sym c.clocks_unsound.ensures ∙ c.if-clocks_unsound.false) (le-ltb (capacity c.args.form c.args.network.now) c.args.run.now.held (omega (arith, c.capacity.ensures, c.if-capacity-run.false))) (sym (c.messages_unsound.ensures ∙ some-flying s.form s.run s.tally s.network c.args.run.now.held c.in-Some.ensures.1) ∙ c.if-messages_unsound.true)

pub returns-then-settling_unsound : goal.returns-then-settling_unsound
returns-then-settling_unsound c = let s : State = state_in c.args.form c.args.run.now c.args.tally.now c.args.network.now in
    by-settling s c.in-Some.ensures.0 (sym c.clocks_unsound.ensures ∙ c.if-clocks_unsound.false) (le-ltb (capacity c.args.form c.args.network.now) c.args.run.now.held (omega (arith, c.capacity.ensures, c.if-capacity-run.false))) (sym (c.messages_unsound.ensures ∙ some-flying s.form s.run s.tally s.network c.args.run.now.held c.in-Some.ensures.1) ∙ c.if-messages_unsound.false) (sym c.settling_unsound.ensures ∙ c.if-settling_unsound.true)

pub returns : goal.returns
returns c = let s : State = state_in c.args.form c.args.run.now c.args.tally.now c.args.network.now in
    record { says = c.tail_not_zero.ensures ∙ ap (λ (w : ℕ). some_non_zero (drop (w * c.args.run.now.held) s.network)) c.width.ensures ∙ by-tail s c.in-Some.ensures.0 (sym c.clocks_unsound.ensures ∙ c.if-clocks_unsound.false) (le-ltb (capacity c.args.form c.args.network.now) c.args.run.now.held (omega (arith, c.capacity.ensures, c.if-capacity-run.false))) (sym (c.messages_unsound.ensures ∙ some-flying s.form s.run s.tally s.network c.args.run.now.held c.in-Some.ensures.1) ∙ c.if-messages_unsound.false) (sym c.settling_unsound.ensures ∙ c.if-settling_unsound.false); clocks = λ e. search rules; views = λ e. search rules }
