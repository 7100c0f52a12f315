-- The single stuck-at faults of a design, in order.
use Rattle.std.specs.Prelude.{ℕ, Bool, true, false, not, ◌&&◌, List, [], ◌∷◌, length, filter, Option, None, Some, ◌==◌, nat_lt}
use Rattle.std.specs.List.{list_any, range_with_len}
use Rattle.dft_netlist.specs.declared.ids.NetId.{NetId}
use Rattle.dft_netlist.specs.Netlist.{Netlist}
use Rattle.dft_behavior.specs.ClockRoots.{ClockRoot, clock_root_of}
use Rattle.dft_netlist.specs.Connections.{is_input}
use Rattle.dft_netlist.specs.Drivers.{Net, driver}
use Rattle.dft_netlist.specs.NetDrivers.{times_driven}
use Rattle.dft_faults.specs.declared.fault.Fault.{Fault}

-- some output pin, join or input bit drives the net; the output pin of an opaque cell does too
abbrev pub is_driven : Netlist → (net : ℕ) → Bool
is_driven n net = nat_lt 0 (times_driven n net)

-- the clock port that is shown, if one is, is one of these
abbrev pub is_root_in : (is_clock : ℕ → Bool) → Option ClockRoot → Bool
is_root_in is_clock None = false
is_root_in is_clock (Some root) = is_clock root.port

-- whether a net shows one of these clock ports, itself or inverted
abbrev pub shows_clock : Netlist → (is_clock : ℕ → Bool) → (net : ℕ) → Bool
shows_clock n is_clock net = is_root_in is_clock (clock_root_of n (Net net))

-- whether a net has faults: it has a driver, is no bit of an input port, and shows no clock
abbrev pub has_faults : Netlist → (is_clock : ℕ → Bool) → (net : ℕ) → Bool
has_faults n is_clock net = is_driven n net && (not (is_input (driver n net)) && not (shows_clock n is_clock net))

-- both faults of each of these nets, stuck at 0 first
abbrev pub both_of : List ℕ → List Fault
both_of [] = []
both_of (net ∷ nets) = record { net = record { 0 = net }; value = false } ∷ record { net = record { 0 = net }; value = true } ∷ both_of nets

-- The faults of a design whose clock ports are these: for each net in order that has faults, value 0 and then 1.
abbrev pub faults : Netlist → (is_clock : ℕ → Bool) → List Fault
faults n is_clock = both_of (filter (has_faults n is_clock) (range_with_len 0 (length n.nets)))

-- clock ports, by their nets
abbrev pub is_clock_in : List NetId → (net : ℕ) → Bool
is_clock_in clocks net = list_any (λ clock. clock.0 == net) clocks
