-- Settling a design from values that are given at its sources: what takes no value from other nets.
use Rattle.std.specs.Prelude.{ℕ, true, false, ◌≡◌, ◌==◌, ◌<◌, ◌&&◌, if◌then◌else◌, List, map, length, slice_index_or}
use Rattle.dft_base.specs.declared.tri.Tri.{Tri}
use Rattle.dft_base.specs.declared.tri.Tri.TheVariants.{Unknown}
use Rattle.dft_cells.specs.Gates.{tri_of}
use Rattle.dft_netlist.specs.Netlist.{Netlist}
use Rattle.dft_behavior.specs.Logic.{Meaning, Ports, Input, Clock, Gate, Joined, Flop, Lockup, Free, logic_of}
use Rattle.dft_behavior.specs.Settled.{TriSources, value_from, inverse}
use Rattle.dft_lanes.specs.declared.wide.Wide.{Wide}
use Rattle.dft_evaluator.specs.Wides.{value_in, values_in}

-- the value of a net: that of its gate or join, and at a source what is given there
abbrev pub value_set : (given values : ℕ → Tri) → (net : ℕ) → Meaning → Tri
value_set given values net Input = given net
value_set given values net Clock = given net
value_set given values net (Gate kind inputs) = tri_of kind (map (value_from values) inputs)
value_set given values net (Joined source) = value_from values source
value_set given values net (Flop cell inverted) = given net
value_set given values net (Lockup cell domain high source) = given net
value_set given values net Free = given net

-- every net has its gate's or join's value, and a source what is given there; what is given at other nets counts for nothing
abbrev pub IsSettledFrom : (ℕ → Meaning) → (given values : ℕ → Tri) → Type 0
IsSettledFrom meanings given values = (net : ℕ) → values net ≡ value_set given values net (meanings net)

-- a net that is a source has there what these sources show at it
abbrev pub IsGiven : TriSources → (given : ℕ → Tri) → (net : ℕ) → Meaning → Type 0
IsGiven s given net Input = given net ≡ s.ports net
IsGiven s given net Clock = given net ≡ s.clocks net
IsGiven s given net (Gate kind inputs) = Unit {0}
IsGiven s given net (Joined source) = Unit {0}
IsGiven s given net (Flop cell inverted) = given net ≡ (if inverted then inverse (s.flops cell) else s.flops cell)
IsGiven s given net (Lockup cell domain high source) = given net ≡ s.lockups cell domain high source
IsGiven s given net Free = given net ≡ Unknown

abbrev pub AreGiven : (ℕ → Meaning) → TriSources → (given : ℕ → Tri) → Type 0
AreGiven meanings s given = (net : ℕ) → IsGiven s given net (meanings net)

-- no port is a clock, so no flip-flop and no lock-up is modelled: their outputs, like input bits, are sources
abbrev pub no_clocks : Ports
no_clocks = record { is_clock = λ net. false; is_reset = λ net. true }

-- ---- an evaluator

-- what each net takes its value from, and what it can be in each pattern
pub record Evaluation : Type 0 where
  pub meanings : List Meaning
  pub wides : List Wide

-- past the end a net is free
abbrev pub meaning_at : List Meaning → (net : ℕ) → Meaning
meaning_at meanings net = slice_index_or meanings net Free

-- the value of a net in a pattern
abbrev pub value_at : Evaluation → (pattern net : ℕ) → Tri
value_at e pattern net = values_in e.wides pattern net

-- the evaluator was prepared from this design
pub record IsFor (n : Netlist) (e : Evaluation) : Type 0 where
  pub nets : length e.wides ≡ length n.nets
  pub means : (net : ℕ) → meaning_at e.meanings net ≡ (logic_of n no_clocks).net net

-- the value of one net in one pattern is set
pub record IsSet (old : Evaluation) (pattern net : ℕ) (value : Tri) (new : Evaluation) : Type 0 where
  pub meanings : new.meanings ≡ old.meanings
  pub nets : length new.wides ≡ length old.wides
  pub each : (p k : ℕ) → value_at new p k ≡ (if (p == pattern) && (k == net) then value else value_at old p k)

-- the values of one net are set in all patterns
pub record IsSetWide (old : Evaluation) (net : ℕ) (wide : Wide) (new : Evaluation) : Type 0 where
  pub meanings : new.meanings ≡ old.meanings
  pub nets : length new.wides ≡ length old.wides
  pub each : (p k : ℕ) → value_at new p k ≡ (if k == net then value_in wide p else value_at old p k)

-- all nets are settled in each of the 512 patterns from what was given at the sources
pub record IsSettledIn (old new : Evaluation) : Type 0 where
  pub meanings : new.meanings ≡ old.meanings
  pub nets : length new.wides ≡ length old.wides
  pub each : (pattern : ℕ) → pattern < 512 → IsSettledFrom (meaning_at old.meanings) (value_at old pattern) (value_at new pattern)
