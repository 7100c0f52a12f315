-- From the abstract cycle to a run.
use Rattle.std.proofs.Common.{ℕ, Bool, true, false, ◌≡◌, Option, None, Some, refl, ap}
use Rattle.dft_base.specs.declared.tri.Tri.{Tri}
use Rattle.dft_base.specs.declared.tri.Tri.TheVariants.{Unknown}
use Rattle.dft_base.specs.Tri.{known, Above, AboveTri}
use Rattle.dft_cells.proofs.Completions.{above_known, above_self}
use Rattle.dft_cells.specs.FlipFlops.{Forces, no_forces, tri_forced_where, tri_forced_by}
use Rattle.dft_behavior.specs.Logic.{Logic, IsRanked}
use Rattle.dft_behavior.specs.Runs.{State, Now, Vector, Turn, IsTurn, after_turn, AreLow}
use Rattle.dft_abstract.specs.Cycle.{level_before, rise_of, fall_of, Halves, AreClosed, after_halves}
use Rattle.dft_abstract.specs.Laws.{Stands, StandsAt, IsForced, bits, after_rises, falls_from, KnownAfterTurn, KnownAfterFalls, KnownAtStrobe, LowAfterTurn}
use Rattle.dft_abstract.proofs.Turns.{strobe_stands, rises_stand, rises_forced, falls_stand, turn_stands}
use Rattle.dft_abstract.proofs.Views.{closed_exists, strobe_exists}
use Rattle.dft_abstract.proofs.Halves.{closed_views, halves_exist}

-- a bit below a known value is it
known_below : (a b : Bool) → Above (known a) b → b ≡ a
known_below true true h = refl
known_below true false h = absurd h
known_below false false h = refl
known_below false true h = absurd h

bit_is : (t : Tri) (b a : Bool) → Above t b → t ≡ known a → b ≡ a
bit_is t b a h is = known_below a b (rw is at h)

from_bits : (s : State) → AreLow s → Stands (bits s) s
from_bits s low = record { above = λ c. above_known (s.flops c); low = low }

after_from : (l : Logic) (rank : ℕ → ℕ) (x : Vector) (now : Now) (t : Turn) → IsRanked l rank → AreLow now.state → IsTurn l x now t → (h : Halves) → AreClosed l x (bits now.state) h →
    Stands (after_halves l x (bits now.state) h) (after_turn l x now t).state
after_from l rank x now t ranked low turn h closed = turn_stands l rank x (bits now.state) now t h ranked (from_bits now.state low) turn closed

pub known_after_turn : KnownAfterTurn
known_after_turn l rank x now t ranked low turn c b law =
    let found = halves_exist l rank x (bits now.state) ranked in
    bit_is _ _ b ((after_from l rank x now t ranked low turn found.0 found.1).above c) (law found.0 (closed_views l x (bits now.state) found.0 found.1))

-- ---- the falls alone

-- the own bit of a cell without reset or set, and else what stands above it
abbrev own_where : (clear preset : Option ℕ) → (over own : Tri) → Tri
own_where None None over own = own
own_where None (Some pin) over own = over
own_where (Some pin) preset over own = over

abbrev own_or : Forces ℕ → (over own : Tri) → Tri
own_or f over own = own_where f.clear f.preset over own

own_is : (f : Forces ℕ) (over own : Tri) → f ≡ no_forces → own_or f over own ≡ own
own_is f over own is = ap (λ g. own_or g over own) is

forced_own : (clear preset : Option ℕ) (ports : ℕ → Tri) (over own : Tri) → AboveTri over (tri_forced_where false clear ports (tri_forced_where true preset ports over)) →
    AboveTri (own_where clear preset over own) (tri_forced_where false clear ports (tri_forced_where true preset ports (own_where clear preset over own)))
forced_own None None ports over own forced = above_self own
forced_own None (Some pin) ports over own forced = forced
forced_own (Some pin) preset ports over own forced = forced

own_forced : (f : Forces ℕ) (ports : ℕ → Tri) (over own : Tri) → AboveTri over (tri_forced_by f ports over) → AboveTri (own_or f over own) (tri_forced_by f ports (own_or f over own))
own_forced f ports over own forced = forced_own f.clear f.preset ports over own forced

where_above : (clear preset : Option ℕ) (over : Tri) (b : Bool) → Above over b → Above (own_where clear preset over (known b)) b
where_above None None over b above = above_known b
where_above None (Some pin) over b above = above
where_above (Some pin) preset over b above = above

own_above : (f : Forces ℕ) (over : Tri) (b : Bool) → Above over b → Above (own_or f over (known b)) b
own_above f over b above = where_above f.clear f.preset over b above

pub known_after_falls : KnownAfterFalls
known_after_falls l rank x now t ranked low turn c b law =
    let s : State = (after_rises l x now t).state in
    let up = closed_exists l rank (rise_of l x (bits now.state)) ranked in
    let over : ℕ → Tri = (fall_of l x (bits now.state) up.0).old in
    let old : ℕ → Tri = λ k. own_or (l.cell k).forces (over k) (bits s k) in
    let risen = rises_stand l rank x (bits now.state) now t (λ k. Unknown) up.0 ranked (from_bits now.state low) turn up.1 in
    let own : StandsAt (level_before (falls_from x old)) old s = record { above = λ k. own_above (l.cell k).forces (over k) (s.flops k) (risen.above k); levels = risen.levels } in
    let forced : IsForced l (falls_from x old) = λ k. own_forced (l.cell k).forces x.ports (over k) (bits s k) (rises_forced l x (bits now.state) up.0 k) in
    let down = closed_exists l rank (falls_from x old) ranked in
    bit_is _ _ b ((falls_stand l rank x old now t (λ k. Unknown) down.0 ranked turn forced own down.1).above c)
    (law old (record { poss = λ k. Unknown; view = down.0 }) (λ k none. own_is (l.cell k).forces (over k) (bits s k) none) down.1.views)

-- ---- the strobe, and the clocks

pub known_at_strobe : KnownAtStrobe
known_at_strobe l rank x now t ranked low turn net b law =
    let found = strobe_exists l rank x (bits now.state) ranked in
    bit_is _ _ b (strobe_stands l rank x (bits now.state) found.0 now t ranked (from_bits now.state low) turn found.1 net) (law found.0 found.1)

pub low_after_turn : LowAfterTurn
low_after_turn l rank x now t ranked low turn =
    let found = halves_exist l rank x (bits now.state) ranked in
    (after_from l rank x now t ranked low turn found.0 found.1).low
