-- "Checks, in order": each its own predicate, true where its sentence holds.
use Rattle.std.specs.Prelude.{Bool, false, not, ◌&&◌, ◌||◌, cond, List, [], ◌∷◌, ℕ, ◌+◌, ◌*◌, ◌^◌, max, eqb, leb, ltb, length, get_or, drop, zero, suc, Result, Ok, Err}
use Rattle.base.specs.Count.{count}
use Rattle.base.specs.Scan.{some, first}
use Rattle.base.specs.Sets.{member, size}
use Rattle.types.specs.declared.Plan.{Plan}
use Rattle.types.specs.declared.Message.{Message}
use Rattle.types.specs.declared.Form.{Form}
use Rattle.types.specs.declared.Run.{Run}
use Rattle.types.specs.Quantities.{n_least, n_most, delta_least, delta_most, gamma_least, gamma_most, views_least, views_most, per_leader, per_leader_least, per_leader_most, row_words, width, network_least, network_most, tolerated, lead, initial, next_initial, clock_time, end_time, start_limit, correct, turn_start}
use Rattle.types.specs.Messages.{kind_of, view_in, processor_in, kind_least, kind_most, stage_of, addressee}
use Rattle.model.specs.State.{State, is_correct, Held, entered_word, marks_word, mark_bit, word, held_at, held_in, room_in}
use Rattle.model.specs.Moves.{Change, needed}

-- a check's number, and whether its sentence holds
abbrev pub Check : Type 0
Check = ℕ × Bool

-- "it comes only when its sentence holds and no earlier applicable one does": what the first such check's refusal gives, or a
abbrev pub judged : {A : Type 0} → (ℕ → A) → List Check → A → A
judged refusal [] a = a
judged refusal (c ∷ cs) a = cond c.1 (refusal c.0) (judged refusal cs a)

-- what a check's number comes to: 0 passes, any other refuses
abbrev pub passed : ℕ → Result (Unit {0}) ℕ
passed zero = Ok tt
passed (suc k) = Err (suc k)

-- the check that refuses, or 0
abbrev pub refusal : {A : Type 0} → Result A ℕ → ℕ
refusal (Ok x) = 0
refusal (Err k) = k

-- 1 is judged of the event alone: `lacks_form` (types)

-- the two halves of 10
abbrev pub no_processor : Plan → ℕ → Bool
no_processor plan p = leb plan.n p

abbrev pub no_view : Plan → ℕ → Bool
no_view plan w = leb plan.views w

-- 2. "n is outside 4 to 64."
abbrev pub n_outside : Plan → Bool
n_outside p = ltb p.n n_least || ltb n_most p.n

-- 3. "Δ or Γ is outside its range."
abbrev pub delays_outside : Plan → Bool
delays_outside p = ltb p.delta delta_least || ltb delta_most p.delta || ltb p.gamma (gamma_least p) || ltb gamma_most p.gamma

-- "k, the views per leader, 2 to 8 (check 4)"
abbrev pub per_leader_outside : Plan → Bool
per_leader_outside p = ltb (per_leader p) per_leader_least || ltb per_leader_most (per_leader p)

-- 4. "V is outside its range or no multiple of 3."; "the multiple in check 4 follow[s] k"
abbrev pub views_outside : Plan → Bool
views_outside p = per_leader_outside p || ltb p.views views_least || ltb views_most p.views || not (turn_start p p.views)

-- 2 to 4
abbrev pub plan_outside : Plan → Bool
plan_outside p = n_outside p || delays_outside p || views_outside p

-- 5. "The mask has a bit at n or above, or more than t ones."
abbrev pub faulty_outside : Plan → ℕ → Bool
faulty_outside p faulty = leb (2 ^ p.n) faulty || ltb (tolerated p) (size faulty)

-- "or the post fewer than 8n or more than 524,288"; in the packed form, "A post needs at least 4n words"
abbrev pub network_outside : Form → Plan → ℕ → Bool
network_outside form p network = ltb network (network_least form p) || ltb network_most network

-- 6. "The ledger has fewer than 4V words, or the post fewer than 8n or more than 524,288."
abbrev pub lengths_outside : Form → Plan → ℕ → ℕ → Bool
lengths_outside form p tally network = ltb tally (row_words * p.views) || network_outside form p network

abbrev pub buffers_outside : State → Bool
buffers_outside s = lengths_outside s.form s.run.plan (length s.tally) (length s.network)

-- 7. "A correct start clock is 3Γ or more."; "the limit on start clocks (kΓ)"
abbrev pub high_at : Plan → ℕ → List ℕ → ℕ → Bool
high_at p faulty clocks q = correct p faulty q && leb (start_limit p) (get_or clocks q 0)

unfoldable pub start_too_high : Plan → ℕ → List ℕ → Bool
start_too_high p faulty clocks = some (high_at p faulty clocks) p.n

-- 8. "A correct clock c has fewer than t+1 correct clocks c', its own counted, with c'+Γ ≥ c."
abbrev pub support_at : Plan → ℕ → List ℕ → ℕ → ℕ → Bool
support_at p faulty clocks c q = correct p faulty q && leb c (get_or clocks q 0 + p.gamma)

abbrev pub supporting : Plan → ℕ → List ℕ → ℕ → ℕ
supporting p faulty clocks c = count p.n (support_at p faulty clocks c)

abbrev pub alone_at : Plan → ℕ → List ℕ → ℕ → Bool
alone_at p faulty clocks q = correct p faulty q && ltb (supporting p faulty clocks (get_or clocks q 0)) (tolerated p + 1)

unfoldable pub too_far_ahead : Plan → ℕ → List ℕ → Bool
too_far_ahead p faulty clocks = some (alone_at p faulty clocks) p.n

-- 9. "The run handed in is unsound: a limit of 2 to 6 broken, a correct clock or the time at or above VΓ, a correct clock below its view's
-- clock time or not below that of the next initial view, more messages than fit, a held message with kind, view or cabinet out of range or
-- addressed to a faulty cabinet, a sending or settling time later than now, or a post word beyond the last message that is not 0."

abbrev pub limits_broken : State → Bool
limits_broken s = plan_outside s.run.plan || faulty_outside s.run.plan s.run.faulty || buffers_outside s

abbrev pub at_end : Plan → ℕ → Bool
at_end p clock = leb (end_time p) clock

abbrev pub clock_outside : Plan → ℕ → ℕ → Bool
clock_outside p clock view = at_end p clock || ltb clock (clock_time p view) || leb (clock_time p (next_initial p view)) clock

abbrev pub outside_at : Plan → ℕ → List ℕ → List ℕ → ℕ → Bool
outside_at p faulty clocks views q = correct p faulty q && clock_outside p (get_or clocks q 0) (get_or views q 0)

abbrev pub clocks_unsound : State → Bool
clocks_unsound s = let r = s.run in some (outside_at r.plan r.faulty r.clocks r.views) r.plan.n

abbrev pub time_unsound : State → Bool
time_unsound s = at_end s.run.plan s.run.time

abbrev pub held_too_many : State → Bool
held_too_many s = ltb (room_in s) s.run.held

abbrev pub kind_outside : ℕ → Bool
kind_outside kind = ltb kind kind_least || ltb kind_most kind

-- a message that is of no kind, names too much, is for no correct processor, or was sent later than now
abbrev pub held_unsound : Plan → ℕ → ℕ → Held → Bool
held_unsound plan faulty time h =
    kind_outside h.kind || no_view plan h.view || no_processor plan h.processor
    || not (correct plan faulty (addressee plan h.kind h.view h.processor)) || ltb time h.sent

unfoldable pub message_unsound : State → ℕ → Bool
message_unsound s i = held_unsound s.run.plan s.run.faulty s.run.time (held_in s i)

-- "(its settling time is kept as 0; check 9 refuses another value in an unsettled run)"
abbrev pub settling_unsound : State → Bool
settling_unsound s = ltb s.run.time s.run.gst || (not s.run.settled && not (eqb s.run.gst 0))

abbrev pub some_non_zero : List ℕ → Bool
some_non_zero [] = false
some_non_zero (x ∷ xs) = not (eqb x 0) || some_non_zero xs

abbrev pub tail_not_zero : State → Bool
tail_not_zero s = some_non_zero (drop (width s.form * s.run.held) s.network)

unfoldable pub unsound : State → Bool
unsound s =
    limits_broken s || clocks_unsound s || time_unsound s || held_too_many s || some (message_unsound s) s.run.held || settling_unsound s || tail_not_zero s

-- all of it but the time: no event changes what this part says of a run (`EventsLast` in liveness), while ticks may bring the time to VΓ
unfoldable pub unsound_for_good : State → Bool
unsound_for_good s = limits_broken s || clocks_unsound s || held_too_many s || some (message_unsound s) s.run.held || settling_unsound s || tail_not_zero s

-- 10. "A named cabinet is n or more, or a named view V or more."
abbrev pub named_outside : Plan → ℕ → ℕ → Bool
named_outside plan p w = no_processor plan p || no_view plan w

-- 11. "A view message or view certificate names a view that is not initial."
abbrev pub not_initial : Plan → Bool → ℕ → Bool
not_initial plan stage w = not stage && not (initial plan w)

-- 12. "The signer is correct, or the cabinet shown to is faulty."
abbrev pub signer_correct : State → Message → Bool
signer_correct s m = is_correct s.run (processor_in m)

abbrev pub receiver_faulty : State → Message → Bool
receiver_faulty s m = not (is_correct s.run (processor_in m))

-- a held message is m, whenever it was sent; and the one at place i is
abbrev pub held_is : Message → Held → Bool
held_is m h = eqb h.kind (kind_of m) && eqb h.view (view_in m) && eqb h.processor (processor_in m)

abbrev pub is_at : Form → List ℕ → Message → ℕ → Bool
is_at form ws m i = held_is m (held_at form ws i)

-- "the first, of equal ones"
abbrev pub place_of : State → Message → ℕ
place_of s m = first (is_at s.form s.network m) s.run.held

-- 13. "The message is not in the post."
abbrev pub not_held : State → Message → Bool
not_held s m = eqb (place_of s m) s.run.held

-- "It exists, for a correct leader of w, if formed; for a faulty one, if f plus the correct cabinets that entered w come to t+1 (vc) or n−t (qc)."
unfoldable pub exists : Bool → Run → List ℕ → ℕ → Bool
exists stage r t w =
    cond (is_correct r (lead r.plan w))
    (member (word t w marks_word) (mark_bit stage))
    (leb (needed stage r.plan) (size r.faulty + size (word t w entered_word)))

-- 14. "The certificate shown does not exist."
abbrev pub not_existing : State → Message → Bool
not_existing s m = not (exists (stage_of m) s.run s.tally (view_in m))

-- 15. "The network has settled before."
abbrev pub settled_before : State → Bool
settled_before s = s.run.settled

-- "A message is overdue when settled and now is at or past the later of its sending and settling times, plus Δ."
abbrev pub late : ℕ → ℕ → ℕ → ℕ → Bool
late gst delta time sent = leb (max sent gst + delta) time

abbrev pub late_at : ℕ → ℕ → ℕ → Form → List ℕ → ℕ → Bool
late_at gst delta time form ws i = late gst delta time (held_at form ws i).sent

abbrev pub overdue_at : State → ℕ → Bool
overdue_at s = late_at s.run.gst s.run.plan.delta s.run.time s.form s.network

-- 16. "A tick finds an overdue message."
unfoldable pub overdue : State → Bool
overdue s = s.run.settled && some (overdue_at s) s.run.held

-- 17. "A correct clock would reach VΓ.", by the change c
unfoldable pub reaches_end : Run → Change → Bool
reaches_end r c = some (λ p. is_correct r p && at_end r.plan (get_or c.clocks p 0)) r.plan.n

-- 18. "The messages held after the event would exceed the post's words divided by 4, rounded down.", by the change c of s; in the packed form,
-- "check 18 divides its words by 2"
abbrev pub overfull : State → Change → Bool
overfull s c = ltb (room_in s) (s.run.held + length c.sent)
