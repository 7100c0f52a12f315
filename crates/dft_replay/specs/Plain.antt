-- The plain replay: nets are settled by levels of drivers, the map of a pulse rises round by round, bits are compared one by one.
use Rattle.std.specs.Prelude.{ℕ, zero, suc, ◌+◌, List, [], ◌∷◌, length, Option, None, Some, if◌then◌else◌}
use Rattle.dft_base.specs.declared.tri.Tri.{Tri}
use Rattle.dft_base.specs.declared.tri.Tri.TheVariants.{Unknown}
use Rattle.dft_base.specs.Tri.{join}
use Rattle.dft_netlist.specs.Netlist.{Netlist}
use Rattle.dft_netlist.specs.Drivers.{IsOrdered}
use Rattle.dft_behavior.specs.Logic.{Logic, logic_of}
use Rattle.dft_behavior.specs.Settled.{value_given}
use Rattle.dft_behavior.specs.Runs.{Vector}
use Rattle.dft_abstract.specs.Cycle.{Pulse, changes, view_sources, next_value, after_pulse, rise_of, fall_of, strobe_sources}
use Rattle.dft_patterns.specs.Patterns.{Patterns}
use Rattle.dft_replay.specs.declared.verdict.Unknowns.{Unknowns}
use Rattle.dft_replay.specs.declared.verdict.Unknowns.TheVariants.{Stop}
use Rattle.dft_replay.specs.declared.verdict.Verdict.{Verdict}
use Rattle.dft_replay.specs.declared.verdict.Verdict.TheVariants.{Pass}
use Rattle.dft_replay.specs.Rows.{Row, rows_of, ports_of}
use Rattle.dft_replay.specs.Verdicts.{bits_decide, HasVerdict}

-- ---- maps as lists

-- the value at a place; Unknown past the end
abbrev pub value_at : List Tri → ℕ → Tri
value_at [] c = Unknown
value_at (t ∷ ts) zero = t
value_at (t ∷ ts) (suc c) = value_at ts c

-- the first values of a map, so many
abbrev pub table : (count : ℕ) → (ℕ → Tri) → List Tri
table zero f = []
table (suc count) f = f 0 ∷ table count (λ c. f (suc c))

-- ---- levels

-- the values of a strobe and of the views from so many levels of drivers
abbrev pub strobe_values : Logic → Vector → (old : ℕ → Tri) → (levels net : ℕ) → Tri
strobe_values l x old zero net = Unknown
strobe_values l x old (suc levels) net =
    value_given (strobe_sources l x old (strobe_values l x old levels)) (strobe_values l x old levels) net (l.net net)

abbrev pub view_values : Logic → Pulse → (poss : ℕ → Tri) → (levels domain net : ℕ) → Tri
view_values l p poss zero d net = Unknown
view_values l p poss (suc levels) d net =
    value_given (view_sources l p poss (view_values l p poss levels) d) (view_values l p poss levels d) net (l.net net)

-- ---- rounds

-- how much is looked at: so many levels of drivers, and the cells below a number
pub record Size : Type 0 where
  pub levels : ℕ
  pub cells : ℕ

-- a cell's value, joined with its next value where it takes one
abbrev pub raised_value : Logic → Pulse → (poss : ℕ → Tri) → (view : ℕ → ℕ → Tri) → (cell : ℕ) → Tri
raised_value l p poss view c = if changes l p c then join (poss c) (next_value l p view c) else poss c

abbrev pub raised : Logic → Pulse → Size → List Tri → List Tri
raised l p s poss = table s.cells (raised_value l p (value_at poss) (view_values l p (value_at poss) s.levels))

-- the map after so many rounds
abbrev pub raised_by : Logic → Pulse → Size → (rounds : ℕ) → List Tri → List Tri
raised_by l p s zero poss = poss
raised_by l p s (suc rounds) poss = raised_by l p s rounds (raised l p s poss)

-- the map of a phase: no cell rises twice, so there are as many rounds as cells
abbrev pub plain_map : Logic → Pulse → Size → List Tri
plain_map l p s = raised_by l p s s.cells (table s.cells p.old)

-- ---- vectors

abbrev pub or_later : Option Verdict → Verdict → Verdict
or_later None later = later
or_later (Some d) later = d

-- the falls behind the rises at a map
abbrev pub plain_fall : Logic → Size → Vector → (old up : List Tri) → Pulse
plain_fall l s x old up = fall_of l x (value_at old) (view_values l (rise_of l x (value_at old)) (value_at up) s.levels)

-- what a vector comes to at the maps of its halves, where the vectors after it come to `later` of the values of the cells
abbrev pub plain_at : Unknowns → Logic → Size → (vector : ℕ) → Row → (old up down : List Tri) → (later : List Tri → Verdict) → Verdict
plain_at u l s v x old up down later =
    or_later (bits_decide u (strobe_values l x.vector (value_at old) s.levels) v x.compared)
    (later (table s.cells (after_pulse l (plain_fall l s x.vector old up) (view_values l (plain_fall l s x.vector old up) (value_at down) s.levels))))

-- the same at the map of the falls behind these rises
abbrev pub plain_down : Unknowns → Logic → Size → (vector : ℕ) → Row → (old up : List Tri) → (later : List Tri → Verdict) → Verdict
plain_down u l s v x old up later = plain_at u l s v x old up (plain_map l (plain_fall l s x.vector old up) s) later

abbrev pub plain_from : Unknowns → Logic → Size → (old : List Tri) → (vector compared : ℕ) → List Row → Verdict
plain_from u l s old v compared [] = Pass compared
plain_from u l s old v compared (x ∷ xs) =
    plain_down u l s v x old (plain_map l (rise_of l x.vector (value_at old)) s) (λ next. plain_from u l s next (suc v) (compared + length x.compared) xs)

abbrev pub size_of : Netlist → Size
size_of n = record { levels = suc (length n.nets); cells = length n.instances }

-- what the plain replay comes to, where unknown bits stop it or are passed over
abbrev pub plain_end : Unknowns → Netlist → Patterns → Verdict
plain_end u n p = plain_from u (logic_of n (ports_of n p)) (size_of n) [] 0 0 (rows_of n p)

abbrev pub plain_verdict : Netlist → Patterns → Verdict
plain_verdict n p = plain_end Stop n p

-- Patterns have a verdict on every design with an order, and the plain replay gives it.
abbrev pub VerdictIsPlain : Type 0
VerdictIsPlain = (n : Netlist) (rank : ℕ → ℕ) (p : Patterns) → IsOrdered n rank → HasVerdict n p (plain_verdict n p)
