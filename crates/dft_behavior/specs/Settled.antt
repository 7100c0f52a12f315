-- Settled assignments: every net has the bit that its driver gives it, over bits and over three-valued bits.
use Rattle.std.specs.Prelude.{ℕ, Bool, not, ◌≡◌, if◌then◌else◌, map}
use Rattle.dft_base.specs.declared.tri.Tri.{Tri}
use Rattle.dft_base.specs.declared.tri.Tri.TheVariants.{Zero, One, Unknown}
use Rattle.dft_base.specs.Tri.{known}
use Rattle.dft_cells.specs.Gates.{bit_of, tri_of}
use Rattle.dft_netlist.specs.Drivers.{Source, Net, Tied, Loose}
use Rattle.dft_behavior.specs.Logic.{Logic, Meaning, Input, Clock, Gate, Joined, Flop, Lockup, Free}

-- what the bits of nets come from
pub record Sources : Type 0 where
  -- the bits of input ports, by net
  pub ports : ℕ → Bool
  -- whether the clock of a domain is high, by the net of the clock port
  pub high : ℕ → Bool
  -- the bits of flip-flops, and those that lock-ups hold, by instance
  pub flops : ℕ → Bool
  -- the free bits of nets
  pub free : ℕ → Bool
  -- the free bits of unconnected pins, by instance and pin
  pub loose : ℕ → ℕ → Bool

-- the bit at a pin
abbrev pub bit_from : Sources → (ℕ → Bool) → Source → Bool
bit_from s bits (Net net) = bits net
bit_from s bits (Tied bit) = bit
bit_from s bits (Loose i pin) = s.loose i pin

-- whether a lock-up is a wire, by the level of its clock
abbrev pub is_wire : (high level : Bool) → Bool
is_wire high level = if high then level else not level

-- the bit that a net's meaning gives it
abbrev pub bit_given : Sources → (ℕ → Bool) → (net : ℕ) → Meaning → Bool
bit_given s bits net Input = s.ports net
bit_given s bits net Clock = s.high net
bit_given s bits net (Gate kind inputs) = bit_of kind (map (bit_from s bits) inputs)
bit_given s bits net (Joined source) = bit_from s bits source
bit_given s bits net (Flop cell inverted) = if inverted then not (s.flops cell) else s.flops cell
bit_given s bits net (Lockup cell domain high source) = if is_wire high (s.high domain) then bit_from s bits source else s.flops cell
bit_given s bits net Free = s.free net

-- every net has its driver's bit
abbrev pub IsSettled : Logic → Sources → (ℕ → Bool) → Type 0
IsSettled l s bits = (net : ℕ) → bits net ≡ bit_given s bits net (l.net net)

-- ---- the same with three-valued bits, where free bits are Unknown

pub record TriSources : Type 0 where
  pub ports : ℕ → Tri
  pub clocks : ℕ → Tri
  pub flops : ℕ → Tri
  -- the value of a lock-up, by its instance, its domain, whether it is high, and what its input is joined to
  pub lockups : (cell domain : ℕ) → (high : Bool) → Source → Tri

abbrev pub value_from : (ℕ → Tri) → Source → Tri
value_from values (Net net) = values net
value_from values (Tied bit) = known bit
value_from values (Loose i pin) = Unknown

abbrev pub inverse : Tri → Tri
inverse Zero = One
inverse One = Zero
inverse Unknown = Unknown

abbrev pub value_given : TriSources → (ℕ → Tri) → (net : ℕ) → Meaning → Tri
value_given s values net Input = s.ports net
value_given s values net Clock = s.clocks net
value_given s values net (Gate kind inputs) = tri_of kind (map (value_from values) inputs)
value_given s values net (Joined source) = value_from values source
value_given s values net (Flop cell inverted) = if inverted then inverse (s.flops cell) else s.flops cell
value_given s values net (Lockup cell domain high source) = s.lockups cell domain high source
value_given s values net Free = Unknown

abbrev pub IsTriSettled : Logic → TriSources → (ℕ → Tri) → Type 0
IsTriSettled l s values = (net : ℕ) → values net ≡ value_given s values net (l.net net)
