-- What events do to the sums of a run, of any run and buffers. Assumes nothing.
use mathlib.Core.Path.{◌≡◌, refl, sym, ap, ◌∙◌, subst}
use mathlib.Core.List.{List, [], ◌∷◌, ◌++◌}
use Prim.Native.Nat.{ℕ, ◌+◌, ◌^◌, ◌<◌}
use Rattle.types.specs.declared.Message.{Message}
use Rattle.types.specs.declared.Event.{Event}
use Rattle.types.specs.declared.Event.TheVariants.{Deliver, Sign, Show, Settle, Tick}
use Rattle.types.specs.declared.Counts.{Counts}
use Rattle.types.specs.declared.Traffic.{Traffic}
use Rattle.types.specs.Traffic.{traffic_of, wrapped, counts_more, traffic_sent}
use Rattle.types.specs.TrafficLaws.{counts-more-append, wrapped-none, wrapped-both, wrapped-low}
use Rattle.model.specs.State.{State}
use Rattle.model.specs.Moves.{advanced, arrivals, made}
use Rattle.model.specs.Events.{without, now_settled, ticks, tick_run, effect, applied}
use Rattle.model.specs.Lists.{after}
use Rattle.model.specs.Traffic.{ticks_posted, posting, posted_in, delivered_by, delivered_in, wait_by, wait_in, posted_during, delivered_during, waits_during}
use Rattle.liveness.specs.Traffic.{traffic_taken, SumsMove}
use Rattle.liveness.proofs.Flows.{by-ticks, by-flow}

-- ---- ticks

ticks-sums : (m : ℕ) (s : State) → (ticks m s).state.run.traffic ≡ traffic_sent s.run.traffic (ticks_posted m s)
unfolding counts_more made
ticks-sums = by-ticks (λ s s' ms. s'.run.traffic ≡ traffic_sent s.run.traffic ms) (λ s. refl) (λ s c s' ms ih.
    ih ∙ ap (λ (x : Counts). traffic_of x s.run.traffic.delivered s.run.traffic.waits)
    (sym (counts-more-append s.run.traffic.sent (arrivals (advanced s)).sent ms)))

-- ---- every event

effect-sums : (e : Event) (s : State) → (effect e s).state.run.traffic ≡ traffic_sent (traffic_taken s.run.traffic (delivered_by e) (wait_by e s)) (posting e s)
unfolding effect posting counts_more made without now_settled tick_run
effect-sums (Deliver m) s = refl
effect-sums (Sign m) s = refl
effect-sums (Show m) s = refl
effect-sums Settle s = refl
effect-sums (Tick m) s = ticks-sums m s

pub sums-move : SumsMove
unfolding counts_more
sums-move e s =
    by-flow e s (λ s' ms ds w. s'.run.traffic ≡ traffic_sent (traffic_taken s.run.traffic ds w) ms) refl (λ c. effect-sums e s)

-- ---- whole lists

-- the sums and what is posted, delivered and waited for
abbrev pub traffic_plus : Traffic → List Message → List Message → ℕ → Traffic
traffic_plus x ms ds w = traffic_of (counts_more x.sent ms) (counts_more x.delivered ds) (wrapped x.waits w)

sent-plus : (x : Traffic) (ms : List Message) → x.waits < 2 ^ 64 → traffic_sent x ms ≡ traffic_plus x ms [] 0
unfolding counts_more
sent-plus x ms l = ap (traffic_of (counts_more x.sent ms) x.delivered) (wrapped-none x.waits l)

taken-plus : (e : Event) (s : State) → s.run.traffic.waits < 2 ^ 64
    → traffic_sent (traffic_taken s.run.traffic (delivered_by e) (wait_by e s)) (posting e s)
    ≡ traffic_plus s.run.traffic (posting e s) (delivered_by e) (wait_by e s)
unfolding counts_more
taken-plus (Deliver m) s l = refl
taken-plus (Sign m) s l = sent-plus s.run.traffic (posting (Sign m) s) l
taken-plus (Show m) s l = sent-plus s.run.traffic (posting (Show m) s) l
taken-plus Settle s l = sent-plus s.run.traffic (posting Settle s) l
taken-plus (Tick m) s l = sent-plus s.run.traffic (posting (Tick m) s) l

plus_none : (x : Traffic) → x.waits < 2 ^ 64 → x ≡ traffic_plus x [] [] 0
unfolding counts_more
plus_none x l = sent-plus x [] l

event-sums : (e : Event) (s : State) → s.run.traffic.waits < 2 ^ 64
    → (applied e s).state.run.traffic ≡ traffic_plus s.run.traffic (posted_in e s) (delivered_in e s) (wait_in e s)
event-sums e s l = by-flow e s (λ s' ms ds w. s'.run.traffic ≡ traffic_plus s.run.traffic ms ds w) (plus_none s.run.traffic l)
    (λ c. effect-sums e s ∙ taken-plus e s l)

plus-plus : (x : Traffic) (a b c d : List Message) (v w : ℕ) → traffic_plus (traffic_plus x a c v) b d w ≡ traffic_plus x (a ++ b) (c ++ d) (v + w)
plus-plus x a b c d v w = λ i.
    traffic_of (sym (counts-more-append x.sent a b) i) (sym (counts-more-append x.delivered c d) i) (wrapped-both x.waits v w i)

-- modulo 2^64 the sums of a run are those of its history
pub sums-during : (es : List Event) (s : State) → s.run.traffic.waits < 2 ^ 64
    → (after s es).run.traffic ≡ traffic_plus s.run.traffic (posted_during s es) (delivered_during s es) (waits_during s es)
unfolding after posted_during delivered_during waits_during
sums-during [] s l = plus_none s.run.traffic l
sums-during (e ∷ es) s l =
    let s' : State = (applied e s).state in
    let x : s'.run.traffic ≡ traffic_plus s.run.traffic (posted_in e s) (delivered_in e s) (wait_in e s) = event-sums e s l in
    sums-during es s' (subst (λ (t : Traffic). t.waits < 2 ^ 64) (sym x) (wrapped-low s.run.traffic.waits (wait_in e s)))
    ∙ ap (λ (t : Traffic). traffic_plus t (posted_during s' es) (delivered_during s' es) (waits_during s' es)) x
    ∙ plus-plus s.run.traffic (posted_in e s) (posted_during s' es) (delivered_in e s) (delivered_during s' es) (wait_in e s) (waits_during s' es)
