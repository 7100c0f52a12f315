-- The parts of what is made ready of a planned design.
use Rattle.std.specs.Prelude.{ℕ, Bool, true, false, ◌≡◌, ◌<◌, ◌||◌, List, filter, length}
use Rattle.std.specs.List.{AllByRecursion}
use Rattle.dft_netlist.specs.Netlist.{Netlist}
use Rattle.dft_netlist.specs.Drivers.{driver}
use Rattle.dft_config.specs.Config.{Config}
use Rattle.dft_rules.specs.ConfigPorts.{config_ports}
use Rattle.dft_expect.specs.Captures.{output_bits}
use Rattle.dft_logic.specs.Circuit.{Circuit, flag_at}
use Rattle.dft_logic.specs.Compiling.{IsCircuitOf, ports_by}
use Rattle.dft_seek.specs.Searches.{Search, cells_in, drivable_ports, has_cell, has_falling, takes_at}
use Rattle.dft_seek.specs.Walks.{is_output_of, walked_from}
use Rattle.dft_seek.specs.Marks.{steps_at}
use Rattle.dft_seek.specs.Pins.{ArePins}
use Rattle.dft_seek.specs.Rigs.{shows_at}
use Rattle.dft_seek.specs.declared.preparing.Moves.{Moves}
use Rattle.dft_seek.specs.declared.preparing.Ways.{Ways}
use Rattle.dft_seek.specs.declared.preparing.Nets.{Nets}

-- a search of no fault in a domain of a planned design
abbrev pub search_for : Netlist → Config → (domain : ℕ) → Search
search_for n config domain = record { design = n; config = config; domain = domain; fault = record { net = record { 0 = 0 }; value = false } }

-- the circuit of a design whose clocks are those of the configuration
pub record IsCompiled (n : Netlist) (config : Config) (x : Circuit) : Type 0 where
  pub clocks : List Bool
  pub same : (net : ℕ) → flag_at clocks net ≡ (config_ports n config).is_clock net
  pub circuit : IsCircuitOf n (ports_by clocks) x

-- the scanned cells, and which of them take their next value at the rise and at the fall
pub record AreMoves (s : Search) (m : Moves) : Type 0 where
  pub cells : m.cells.items ≡ cells_in s
  pub live : AllByRecursion (λ cell. cell.0 < length s.design.instances) m.cells.items
  pub instances : length m.holds.items ≡ length s.design.instances
  pub holds : (c : ℕ) → flag_at m.holds.items c ≡ has_cell (cells_in s) c
  pub rises : (c : ℕ) → flag_at m.rises.items c ≡ takes_at s false c
  pub falls : (c : ℕ) → flag_at m.falls.items c ≡ takes_at s true c
  pub any_falls : m.any_falls ≡ has_falling s
  pub responses : m.responses.items ≡ filter (λ cell. takes_at s false cell.0 || takes_at s true cell.0) (cells_in s)

-- what walks go along
pub record AreWays (s : Search) (w : Ways) : Type 0 where
  pub pins : ArePins s.design w.pins.items
  pub shows : (net c : ℕ) → shows_at w.shows.items net c ≡ is_output_of c (driver s.design net)
  pub shown : length w.shows.items ≡ length s.design.nets
  pub table : length w.steps.items ≡ length s.design.nets
  pub steps : (net : ℕ) → steps_at w.steps.items net ≡ walked_from s (driver s.design net)

-- the resets, the bits of output ports, and the drivable ports
pub record AreNets (n : Netlist) (config : Config) (x : Nets) : Type 0 where
  pub resets : (net : ℕ) → flag_at x.resets.items net ≡ (config_ports n config).is_reset net
  pub outputs : x.outputs.items ≡ output_bits n.ports
  pub ports : x.ports.items ≡ drivable_ports (search_for n config 0)
  pub live : AllByRecursion (λ net. net.0 < length n.nets) x.ports.items
