-- What is marked now, and by the rest of the pins, is what was marked and by all.
use Rattle.std.proofs.Common.{◌≡◌, ℕ, ◌<◌, ◌||◌, false, length, get_or, drop}
use Rattle.std.specs.List.{list_any}
use Rattle.dft_netlist.specs.Drivers.{connections_from, connections_of, shape_of}
use Rattle.dft_rules.specs.Refusals.{takes}
use Rattle.dft_rules.proofs.clocks.mark_pins.Given as goal

abbrev pub invariant-loop-pin : goal.invariant-loop-pin
invariant-loop-pin l =
    (net : ℕ) → net < length l.used
    → (get_or l.fn.used net false || list_any (takes net) (connections_of l.cells l.instance))
    ≡ (get_or l.used net false || list_any (takes net) (connections_from l.pin (drop l.pin (shape_of l.cells l.instance.cell).roles) (drop l.pin l.instance.pins)))
