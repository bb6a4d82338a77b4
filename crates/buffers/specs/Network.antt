-- The network as it is written, for every number of messages held and every place.
use Rattle.std.specs.Prelude.{◌≡◌, refl, Bool, true, cond, ◌&&◌, List, [], ◌∷◌, ℕ, ◌+◌, ◌*◌, ◌^◌, ◌≤◌, ◌<◌, eqb, leb, ltb, get_or}
use Rattle.std.proofs.Common.{sym, lt-ltb, le-leb}
use Rattle.base.specs.Choice.{cond_yes, and_both}
use Rattle.base.specs.Scan.{first}
use Rattle.types.specs.declared.Message.{Message}
use Rattle.types.specs.declared.Form.{Form}
use Rattle.types.specs.declared.Form.TheVariants.{Wide, Packed}
use Rattle.types.specs.Quantities.{n_most}
use Rattle.types.specs.Messages.{view_in, processor_in}
use Rattle.model.specs.State.{capacity, posted, removed}
use Rattle.model.specs.Checks.{is_at}

-- a message that a packed word can say: the word has 55 bits for the view and six for the processor
abbrev pub views_packable : ℕ
views_packable = 2 ^ 55

abbrev pub packable : Message → Bool
packable m = ltb (view_in m) views_packable && ltb (processor_in m) n_most

abbrev pub sayable : Form → Message → Bool
sayable Wide m = true
sayable Packed m = packable m

pub is-sayable : (form : Form) (m : Message) → view_in m < views_packable → processor_in m < n_most → sayable form m ≡ true
is-sayable Wide m v p = refl
is-sayable Packed m v p = and_both (ltb (view_in m) views_packable) (ltb (processor_in m) n_most) (lt-ltb _ _ v) (lt-ltb _ _ p)

-- m, sent now, behind the h that are held, where it fits; a message that the form's words cannot say is not appended
abbrev pub appended : Form → List ℕ → ℕ → ℕ → Message → List ℕ
appended form ws h now m = cond (ltb h (capacity form ws) && sayable form m) (posted form ws h now (m ∷ [])) ws

pub appended-fits : (form : Form) (ws : List ℕ) (h now : ℕ) (m : Message) → h < capacity form ws → sayable form m ≡ true
    → appended form ws h now m ≡ posted form ws h now (m ∷ [])
appended-fits form ws h now m l k =
    sym (cond_yes (ltb h (capacity form ws) && sayable form m) _ (posted form ws h now (m ∷ [])) ws
    (and_both (ltb h (capacity form ws)) (sayable form m) (lt-ltb _ _ l) k) refl)

-- "the first, of equal ones"; h where there is none, where h messages do not fit, and where no word says m
abbrev pub found : List ℕ → ℕ → Message → ℕ
found ws h m = cond (leb h (capacity Packed ws) && packable m) (first (is_at Packed ws m) h) h

pub found-fits : (ws : List ℕ) (h : ℕ) (m : Message) → h ≤ capacity Packed ws → packable m ≡ true → found ws h m ≡ first (is_at Packed ws m) h
found-fits ws h m l k =
    sym (cond_yes (leb h (capacity Packed ws) && packable m) _ (first (is_at Packed ws m) h) h
    (and_both (leb h (capacity Packed ws)) (packable m) (le-leb _ _ l) k) refl)

-- without message i of h, where there is such a message
abbrev pub taken : Form → List ℕ → ℕ → ℕ → List ℕ
taken form ws h i = cond (ltb i h && leb h (capacity form ws)) (removed form ws h i) ws

-- the first of two words of message i is x
abbrev pub begins_with : List ℕ → ℕ → ℕ → Bool
begins_with ws x i = eqb (get_or ws (2 * i) 0) x

-- where the sending time of message i stands
abbrev pub time_place : Form → ℕ → ℕ
time_place Wide i = 4 * i + 3
time_place Packed i = 2 * i + 1
