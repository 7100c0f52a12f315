-- The abstract cycle: three values for each flip-flop that stand above its bit in every run, whatever the order of edges.
use Rattle.std.specs.Prelude.{ℕ, Bool, true, false, not, ◌&&◌, ◌||◌, ◌≡◌, ◌==◌, Option, None, Some, if◌then◌else◌}
use Rattle.dft_base.specs.declared.tri.Tri.{Tri}
use Rattle.dft_base.specs.declared.tri.Tri.TheVariants.{Zero, Unknown}
use Rattle.dft_base.specs.Tri.{known, AboveTri, join}
use Rattle.dft_cells.specs.FlipFlops.{tri_taken_by, tri_forced_by}
use Rattle.dft_netlist.specs.Drivers.{Source}
use Rattle.dft_behavior.specs.Logic.{Logic}
use Rattle.dft_behavior.specs.Settled.{TriSources, value_from, IsTriSettled}
use Rattle.dft_behavior.specs.Runs.{Vector, takes}

-- ---- a phase of a pulse of some domains

-- a phase of a pulse: its clocks rise, or they fall
pub record Pulse : Type 0 where
  -- whether the clocks rise
  pub rising : Bool
  -- the values of the input ports
  pub ports : ℕ → Tri
  pub pulsed : ℕ → Bool
  -- the values of flip-flops and what lock-ups hold before, by instance
  pub old : ℕ → Tri

-- whether a cell takes a value: its clock pulses, and this is its edge
abbrev pub changes : Logic → Pulse → (cell : ℕ) → Bool
changes l p c = p.pulsed (l.cell c).domain && takes p.rising (l.cell c).falling

-- the level of a clock before its edge of the phase, and after it
abbrev pub level_before : Pulse → (domain : ℕ) → Bool
level_before p e = p.pulsed e && not p.rising

abbrev pub level_after : Pulse → (domain : ℕ) → Bool
level_after p e = p.pulsed e && p.rising

-- the clock of the view's domain is as before its edge, other pulsed clocks are Unknown, and clocks that do not pulse are 0
abbrev pub clock_value : Pulse → (domain clock : ℕ) → Tri
clock_value p d e = if p.pulsed e then (if e == d then known (not p.rising) else Unknown) else Zero

-- what a lock-up shows that takes its bit in this phase: its input's value in the view of its clock; a high one whose clock rests holds
abbrev pub closing : (rising pulsed : Bool) → (held there : Tri) → Tri
closing rising pulsed held there = if rising || pulsed then there else held

-- what another one shows: before the edge of its clock what it holds, or its input's value too where the order is open; where its clock rests
-- a high one holds, and a low one is a wire
abbrev pub opening : (pulsed own high : Bool) → (held here : Tri) → Tri
opening pulsed own high held here = if pulsed then (if own then held else join held here) else (if high then held else here)

-- from what it holds, its input's value in the view at hand, and that in the view of its clock
abbrev pub lockup_shown : (rising pulsed own high : Bool) → (held here there : Tri) → Tri
lockup_shown rising pulsed own high held here there = if takes rising high then closing rising pulsed held there else opening pulsed own high held here

abbrev pub lockup_value : Pulse → (view : ℕ → ℕ → Tri) → (domain cell clock : ℕ) → (high : Bool) → Source → Tri
lockup_value p view d c e high source = lockup_shown p.rising (p.pulsed e) (e == d) high (p.old c) (value_from (view d) source) (value_from (view e) source)

-- What the view of a domain is settled from. Cells of other pulsed domains that take a value have `poss`, all others their old values.
abbrev pub view_sources : Logic → Pulse → (poss : ℕ → Tri) → (view : ℕ → ℕ → Tri) → (domain : ℕ) → TriSources
view_sources l p poss view d = record {
  ports = p.ports;
  clocks = clock_value p d;
  flops = λ c. if changes l p c then (if (l.cell c).domain == d then p.old c else poss c) else p.old c;
  lockups = lockup_value p view d;
}

-- the view of each domain
abbrev pub AreViews : Logic → Pulse → (poss : ℕ → Tri) → (view : ℕ → ℕ → Tri) → Type 0
AreViews l p poss view = (d : ℕ) → IsTriSettled l (view_sources l p poss view d) (view d)

-- the next value of a cell in the view of its domain
abbrev pub next_value : Logic → Pulse → (view : ℕ → ℕ → Tri) → (cell : ℕ) → Tri
next_value l p view c = tri_forced_by (l.cell c).forces p.ports (tri_taken_by (l.cell c).takes (p.old c) (value_from (view (l.cell c).domain)))

-- a map above the old values and above each next value of the cells that take one, with its views
pub record IsClosed (l : Logic) (p : Pulse) (poss : ℕ → Tri) (view : ℕ → ℕ → Tri) : Type 0 where
  pub views : AreViews l p poss view
  pub old : (c : ℕ) → AboveTri (poss c) (p.old c)
  pub next : (c : ℕ) → changes l p c ≡ true → AboveTri (poss c) (next_value l p view c)

-- the least of them
pub record IsLeast (l : Logic) (p : Pulse) (poss : ℕ → Tri) (view : ℕ → ℕ → Tri) : Type 0 where
  pub closed : IsClosed l p poss view
  pub least : (other : ℕ → Tri) (its : ℕ → ℕ → Tri) → IsClosed l p other its → (c : ℕ) → AboveTri (other c) (poss c)

-- each cell that takes a value takes its next one
abbrev pub after_pulse : Logic → Pulse → (view : ℕ → ℕ → Tri) → (cell : ℕ) → Tri
after_pulse l p view c = if changes l p c then next_value l p view c else p.old c

-- ---- a vector

-- the rises of a vector: resets and sets act at once
abbrev pub rise_of : Logic → Vector → (old : ℕ → Tri) → Pulse
rise_of l x old = record { rising = true; ports = x.ports; pulsed = x.pulsed; old = λ c. tri_forced_by (l.cell c).forces x.ports (old c) }

-- the falls after some rises
abbrev pub falls_after : Logic → Pulse → (view : ℕ → ℕ → Tri) → Pulse
falls_after l p view = record { rising = false; ports = p.ports; pulsed = p.pulsed; old = after_pulse l p view }

-- the falls of a vector, by the views of its rises
abbrev pub fall_of : Logic → Vector → (old : ℕ → Tri) → (view : ℕ → ℕ → Tri) → Pulse
fall_of l x old view = falls_after l (rise_of l x old) view

-- for a strobe clocks are 0, flip-flops have their values, high lock-ups hold and others are wires
abbrev pub strobe_sources : Logic → Vector → (old values : ℕ → Tri) → TriSources
strobe_sources l x old values = record { ports = x.ports; clocks = λ e. Zero; flops = (rise_of l x old).old; lockups = λ c e high source. if high then (rise_of l x old).old c else value_from values source }

-- a map, and the view of each domain at it
pub record Half : Type 0 where
  pub poss : ℕ → Tri
  pub view : ℕ → ℕ → Tri

-- the halves of a vector: its clocks rise, then they fall
pub record Halves : Type 0 where
  pub rise : Half
  pub fall : Half

-- each half has the views at its map
pub record AreHalves (l : Logic) (x : Vector) (old : ℕ → Tri) (h : Halves) : Type 0 where
  pub rise : AreViews l (rise_of l x old) h.rise.poss h.rise.view
  pub fall : AreViews l (fall_of l x old h.rise.view) h.fall.poss h.fall.view

-- each half has a closed map
pub record AreClosed (l : Logic) (x : Vector) (old : ℕ → Tri) (h : Halves) : Type 0 where
  pub rise : IsClosed l (rise_of l x old) h.rise.poss h.rise.view
  pub fall : IsClosed l (fall_of l x old h.rise.view) h.fall.poss h.fall.view

-- each half has the least map
pub record AreLeast (l : Logic) (x : Vector) (old : ℕ → Tri) (h : Halves) : Type 0 where
  pub rise : IsLeast l (rise_of l x old) h.rise.poss h.rise.view
  pub fall : IsLeast l (fall_of l x old h.rise.view) h.fall.poss h.fall.view

-- the values of the flip-flops after the halves of a vector
abbrev pub after_halves : Logic → Vector → (old : ℕ → Tri) → Halves → ℕ → Tri
after_halves l x old h = after_pulse l (fall_of l x old h.rise.view) h.fall.view

-- the values of a vector: those of its strobe, and its halves
pub record Round : Type 0 where
  pub strobe : ℕ → Tri
  pub halves : Halves

pub record IsRound (l : Logic) (x : Vector) (old : ℕ → Tri) (r : Round) : Type 0 where
  pub strobe : IsTriSettled l (strobe_sources l x old r.strobe) r.strobe
  pub least : AreLeast l x old r.halves

-- the values of the flip-flops after a vector
abbrev pub after_round : Logic → Vector → (old : ℕ → Tri) → Round → ℕ → Tri
after_round l x old r = after_halves l x old r.halves

-- before the first vector nothing is known
abbrev pub all_unknown : ℕ → Tri
all_unknown c = Unknown
