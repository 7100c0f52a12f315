-- What is captured, and what a search tells, stands in every run of the design and of the design with the fault.
use Rattle.std.specs.Prelude.{ℕ, ◌<◌, length}
use Rattle.dft_base.specs.Lexing.{Text}
use Rattle.dft_base.specs.Tri.{Above}
use Rattle.dft_netlist.specs.Drivers.{IsOrdered}
use Rattle.dft_netlist.specs.Netlist.{Netlist}
use Rattle.dft_behavior.specs.Logic.{Ports, logic_of}
use Rattle.dft_behavior.specs.Runs.{IsTurn, Now, Turn, Vector}
use Rattle.dft_capture.specs.Captures.{AreSettled, Settled}
use Rattle.dft_runs.specs.WiderPorts.{Suits}
use Rattle.dft_rules.specs.ConfigPorts.{config_ports}
use Rattle.dft_cubes.specs.declared.cube.Cube.{Cube}
use Rattle.dft_expect.specs.Capturing.{CanCapture}
use Rattle.dft_faults.specs.Faulty.{faulty}
use Rattle.dft_fault_laws.specs.Stuck.{IsApart}
use Rattle.dft_seek.specs.Searches.{Completes, Given, Point, Search, moving_of, port_values, value_at}
use Rattle.dft_seek.specs.Sought.{IsSought}
use Rattle.dft_seek.specs.declared.found.Found.TheVariants as found
use Rattle.dft_seek.specs.Laws.{CanSeek}
use Rattle.dft_seek_laws.specs.Applied.{DetectsInRuns, IsApplied, IsCapture, IsPoint, given_in, shown_at}

-- ---- captures

-- What a capture of an assignment knows at a point of a netlist stands above the bit that is shown there, in every turn whose own assignment completes it.
abbrev pub StandsAbove : Search → Netlist → Ports → Type 0
StandsAbove s n ports =
    (g : Given) (settled : Settled) (now : Now) (x : Vector) (t : Turn) (point : Point) → AreSettled n (moving_of s) (port_values s g) g.cells settled →
    IsCapture s now x → Completes g (given_in now x) → IsTurn (logic_of n ports) x now t → IsPoint s point → Above (value_at s n g settled point) (shown_at (logic_of n ports) now x t point)

-- So it is in the design, under the ports of the configuration, or such with more resets, as those of a pattern set;
abbrev pub GoodStandsAbove : Type 0
GoodStandsAbove =
    (s : Search) (rank : ℕ → ℕ) (ports : Ports) → CanSeek s rank → CanCapture s.design s.config → Suits (config_ports s.design s.config) ports →
    StandsAbove s s.design ports

-- and in the design with the fault, where no clock, reset or set comes by the stuck net.
abbrev pub FaultyStandsAbove : Type 0
FaultyStandsAbove =
    (s : Search) (rank : ℕ → ℕ) (ports : Ports) → CanSeek s rank → CanCapture s.design s.config → Suits (config_ports s.design s.config) ports → IsApart s.design s.fault →
    StandsAbove s (faulty s.design s.fault) ports

-- ---- cubes

-- Where no clock, reset or set comes by the stuck net, each cube that is told detects the fault in runs.
abbrev pub CubesDetect : Type 0
CubesDetect =
    (s : Search) (rank : ℕ → ℕ) (ports : Ports) (limit : ℕ) (name : Text) (cube : Cube) → CanSeek s rank → CanCapture s.design s.config → Suits (config_ports s.design s.config) ports →
    IsApart s.design s.fault → IsSought s limit name (found.Cube cube) → DetectsInRuns s ports cube

-- A cube that is told can be applied, where the domain is one of the configuration's,
abbrev pub CubesApply : Type 0
CubesApply =
    (s : Search) (rank : ℕ → ℕ) (limit : ℕ) (name : Text) (cube : Cube) → CanSeek s rank → CanCapture s.design s.config → s.domain < length s.config.domains →
    IsSought s limit name (found.Cube cube) → (now : Now) × ((x : Vector) × IsApplied s cube now x)

-- and wherever a vector captures so, each design has a turn.
abbrev pub TurnsExist : Type 0
TurnsExist =
    (s : Search) (rank : ℕ → ℕ) (ports : Ports) (now : Now) (x : Vector) → CanSeek s rank → IsCapture s now x →
    ((t : Turn) × IsTurn (logic_of s.design ports) x now t) × ((t : Turn) × IsTurn (logic_of (faulty s.design s.fault) ports) x now t)
