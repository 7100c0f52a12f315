-- What the nets of a design are settled from, where one of them may be stuck.
use Rattle.std.specs.Prelude.{ℕ, Bool, true, ◌≡◌, ◌==◌, List, Option, None, Some, slice_index_or, if◌then◌else◌}
use Rattle.dft_base.specs.declared.tri.Tri.{Tri}
use Rattle.dft_base.specs.declared.tri.Tri.TheVariants.{Zero, One, Unknown}
use Rattle.dft_netlist.specs.Drivers.{Tied}
use Rattle.dft_behavior.specs.Logic.{Meaning, Joined}
use Rattle.dft_behavior.specs.Settled.{TriSources, value_given}
use Rattle.dft_logic.specs.Circuit.{flag_at, meaning, op_at}
use Rattle.dft_logic.specs.Values.{value_at}
use Rattle.dft_sweep.specs.declared.field.Field.{Field}
use Rattle.dft_sweep.specs.declared.field.Sources.{Sources}
use Rattle.dft_sweep.specs.declared.field.Stuck.{Stuck}

-- the value of the bit of a port: 1 where it is a reset
abbrev pub port_shown : Sources → (net : ℕ) → Tri
port_shown s net = if flag_at s.resets.now net then One else value_at s.ports.now net

-- the value of a flip-flop: unknown where it holds none
abbrev pub cell_shown : Sources → (cell : ℕ) → Tri
cell_shown s c = if flag_at s.holds.now c then value_at s.cells.now c else Unknown

-- clocks are 0, and lock-ups show nothing that is known
abbrev pub sources_of : Sources → TriSources
sources_of s = record { ports = port_shown s; clocks = λ net. Zero; flops = cell_shown s; lockups = λ c e high source. Unknown }

-- the bit at which a net is stuck
abbrev pub bit_at : Option Stuck → (net : ℕ) → Option Bool
bit_at None net = None
bit_at (Some stuck) net = if stuck.net.0 == net then Some stuck.value else None

-- a stuck net is as one that is joined to its bit
abbrev pub with_bit : Option Bool → Meaning → Meaning
with_bit None m = m
with_bit (Some bit) m = Joined (Tied bit)

-- what a net means
abbrev pub meaning_at : Field → (net : ℕ) → Meaning
meaning_at f net = with_bit (bit_at f.stuck net) (meaning (op_at f.circuit.now.ops net))

-- a net has the value that it is given by what it means, from these sources
abbrev pub IsGivenBy : (means : ℕ → Meaning) → TriSources → (values : List Tri) → (net : ℕ) → Type 0
IsGivenBy means sources values k = value_at values k ≡ value_given sources (value_at values) k (means k)

-- whether a net is needed: so is one that is not told of
abbrev pub is_needed : (needed : List Bool) → (net : ℕ) → Bool
is_needed needed net = slice_index_or needed net true

-- a net has that value if it is needed
abbrev pub IsGivenIf : (needed : List Bool) → (means : ℕ → Meaning) → TriSources → (values : List Tri) → (net : ℕ) → Type 0
IsGivenIf needed means sources values k = is_needed needed k ≡ true → IsGivenBy means sources values k

abbrev pub IsGiven : Field → (values : List Tri) → (net : ℕ) → Type 0
IsGiven f values k = IsGivenIf f.needed.now (meaning_at f) (sources_of f.sources) values k
