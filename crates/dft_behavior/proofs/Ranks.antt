-- An order of a design's nets is one of its logic.
use Rattle.std.proofs.Common.{ℕ, Bool, true, false, List, [], ◌∷◌, Option, None, Some}
use Rattle.std.specs.Prelude.{if◌then◌else◌}
use Rattle.dft_cells.specs.declared.kind.Role.{Role}
use Rattle.dft_cells.specs.declared.kind.Role.TheVariants.{Input, Clock, Din, Reset, Preset, ScanIn, ScanEnable, Output, Inverted}
use Rattle.dft_netlist.specs.Netlist.{Netlist}
use Rattle.dft_netlist.specs.Drivers.{Source, Net, Tied, Loose, Driver, Connection, source_of, pins_of, driver, nets_of, nets_read, is_lockup_input, lockup_inputs, AreBelow}
use Rattle.dft_netlist.specs.Drivers as drivers
use Rattle.dft_behavior.specs.ClockRoots.{ClockRoot}
use Rattle.dft_netlist.specs.Connections.{same_role, pin_of}
use Rattle.dft_behavior.specs.Logic.{Ports, Cell, or_loose, domain_at, flip_flop, flop_meaning, lockup_meaning, meaning_of, reads}
use Rattle.dft_behavior.specs.Logic as meanings
use Rattle.dft_behavior.specs.Laws.{OrderIsRank}
use Rattle.dft_behavior.proofs.StoredLemmas.{lockup_stored}

-- the first of several sources stands below where all do
pub first_below : (rank : ℕ → ℕ) (r : ℕ) (source : Source) (sources : List Source) → AreBelow rank r (nets_of (source ∷ sources)) → AreBelow rank r (nets_of (source ∷ []))
first_below rank r (Net net) sources below = (below.0, tt)
first_below rank r (Tied bit) sources below = tt
first_below rank r (Loose i pin) sources below = tt

pub rest_below : (rank : ℕ → ℕ) (r : ℕ) (source : Source) (sources : List Source) → AreBelow rank r (nets_of (source ∷ sources)) → AreBelow rank r (nets_of sources)
rest_below rank r (Net net) sources below = below.1
rest_below rank r (Tied bit) sources below = below
rest_below rank r (Loose i pin) sources below = below

-- one pin more, which is the data input, the clock or another
pub data_step : (rank : ℕ → ℕ) (r i : ℕ) (role : Role) (source : Source) (rest : List Source) (found : Option Source) →
    (AreBelow rank r (nets_of rest) → AreBelow rank r (nets_of (or_loose i found ∷ []))) →
    AreBelow rank r (nets_of (if is_lockup_input role then source ∷ rest else rest)) → AreBelow rank r (nets_of (or_loose i (if same_role Din role then Some source else found) ∷ []))
data_step rank r i Din source rest found ih below = first_below rank r source rest below
data_step rank r i Clock source rest found ih below = ih (rest_below rank r source rest below)
data_step rank r i Input source rest found ih below = ih below
data_step rank r i Reset source rest found ih below = ih below
data_step rank r i Preset source rest found ih below = ih below
data_step rank r i ScanIn source rest found ih below = ih below
data_step rank r i ScanEnable source rest found ih below = ih below
data_step rank r i Output source rest found ih below = ih below
data_step rank r i Inverted source rest found ih below = ih below

pub data_below : (rank : ℕ → ℕ) (r i : ℕ) (pins : List Connection) → AreBelow rank r (nets_of (lockup_inputs i pins)) → AreBelow rank r (nets_of (or_loose i (pin_of Din i pins) ∷ []))
data_below rank r i [] below = tt
data_below rank r i (c ∷ pins) below = data_step rank r i c.role (source_of i c.pin c.to) (lockup_inputs i pins) (pin_of Din i pins) (data_below rank r i pins) below

pub lockup_below : (rank : ℕ → ℕ) (r i : ℕ) (domain : Option ClockRoot) (source : Source) → AreBelow rank r (nets_of (source ∷ [])) → AreBelow rank r (reads (lockup_meaning i domain source))
lockup_below rank r i None source below = tt
lockup_below rank r i (Some domain) source below = below

pub flop_below : (rank : ℕ → ℕ) (r i : ℕ) (inverted : Bool) (cell : Option Cell) → AreBelow rank r (reads (flop_meaning i inverted cell))
flop_below rank r i inverted None = tt
flop_below rank r i inverted (Some cell) = tt

pub input_below : (rank : ℕ → ℕ) (r : ℕ) (is_clock : Bool) → AreBelow rank r (reads (if is_clock then meanings.Clock else meanings.Input))
input_below rank r true = tt
input_below rank r false = tt

pub meaning_below : (n : Netlist) (ports : Ports) (rank : ℕ → ℕ) (net : ℕ) (d : Driver) → AreBelow rank (rank net) (nets_read n d) → AreBelow rank (rank net) (reads (meaning_of n ports net d))
meaning_below n ports rank net drivers.Input below = input_below rank (rank net) (ports.is_clock net)
meaning_below n ports rank net (drivers.Gate kind inputs) below = below
meaning_below n ports rank net (drivers.Joined source) below = below
meaning_below n ports rank net (drivers.Flop i inverted) below = flop_below rank (rank net) i inverted (flip_flop n ports i)
meaning_below n ports rank net (drivers.Lockup i) below =
    lockup_below rank (rank net) i (domain_at n ports (pin_of Clock i (pins_of n i))) (or_loose i (pin_of Din i (pins_of n i))) (data_below rank (rank net) i (pins_of n i) below)
meaning_below n ports rank net drivers.Free below = tt

pub order_is_rank : OrderIsRank
order_is_rank n ports rank order = record {
  order = λ net. meaning_below n ports rank net (driver n net) (order.after net);
  lockups = lockup_stored n ports;
}
