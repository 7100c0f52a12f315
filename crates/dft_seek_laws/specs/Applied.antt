-- Turns of runs in which a test cube is applied, and what they show.
use Rattle.std.specs.Prelude.{ℕ, Bool, true, not, ◌≡◌, ◌==◌, Some, slice_get}
use Rattle.dft_base.specs.declared.tri.Tri.TheVariants.{One}
use Rattle.dft_netlist.specs.declared.ids.NetId.{NetId}
use Rattle.dft_behavior.specs.Logic.{Logic, Ports, logic_of}
use Rattle.dft_behavior.specs.Runs.{AreLow, IsTurn, Now, Turn, Vector, after_turn}
use Rattle.dft_abstract.specs.Laws.{bits, shown}
use Rattle.dft_rules.specs.ConfigPorts.{config_ports}
use Rattle.dft_cubes.specs.declared.cube.Cube.{Cube}
use Rattle.dft_expect.specs.Captures.{capture_clock}
use Rattle.dft_faults.specs.Faulty.{faulty}
use Rattle.dft_seek.specs.Searches.{Given, Output, Point, Response, Search, points_of}
use Rattle.dft_seek.specs.Sought.{CompletesCube}

-- ---- a capture in a run

-- the assignment of a vector in a run: the bits that the flip-flops have before it, and what it sets the ports to
abbrev pub given_in : Now → Vector → Given
given_in now x = record { cells = bits now.state; ports = x.ports }

-- A vector captures once in the domain of a search: the domain's clock pulses alone, resets are set to 1, and all clocks are low before it.
pub record IsCapture (s : Search) (now : Now) (x : Vector) : Type 0 where
  pub clock : NetId
  pub is : capture_clock s.design s.config s.domain ≡ Some clock
  pub pulses : (net : ℕ) → x.pulsed net ≡ (clock.0 == net)
  pub resets : (net : ℕ) → (config_ports s.design s.config).is_reset net ≡ true → x.ports net ≡ One
  pub low : AreLow now.state

-- In it a cube is applied: its flip-flops have its bits before the vector, and its ports are set to its bits. Nothing is said of all others.
pub record IsApplied (s : Search) (cube : Cube) (now : Now) (x : Vector) : Type 0 where
  pub capture : IsCapture s now x
  pub given : CompletesCube cube (given_in now x)

-- ---- what a turn shows

-- the bit at a point: that of an output port at the strobe, before the clock rises, or that of a flip-flop after the vector
abbrev pub shown_at : Logic → Now → Vector → Turn → Point → Bool
shown_at l now x t (Output net) = shown t net
shown_at l now x t (Response cell) = (after_turn l x now t).state.flops cell

-- the point is one at which the search looks
abbrev pub IsPoint : Search → Point → Type 0
IsPoint s point = (place : ℕ) × (slice_get (points_of s) place ≡ Some point)

-- every turn in which the cube is applied shows this bit at the point, whatever the order of edges, the other flip-flops and the free bits
abbrev pub AlwaysShows : Search → Cube → Logic → Point → (bit : Bool) → Type 0
AlwaysShows s cube l point bit = (now : Now) (x : Vector) (t : Turn) → IsApplied s cube now x → IsTurn l x now t → shown_at l now x t point ≡ bit

-- A cube detects the fault of a search in runs: some point shows one bit in every such turn of the design, and the opposite in every such turn of
-- the design with the fault.
pub record DetectsInRuns (s : Search) (ports : Ports) (cube : Cube) : Type 0 where
  pub point : Point
  pub looked : IsPoint s point
  pub bit : Bool
  pub good : AlwaysShows s cube (logic_of s.design ports) point bit
  pub bad : AlwaysShows s cube (logic_of (faulty s.design s.fault) ports) point (not bit)
