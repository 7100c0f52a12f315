-- What the loads of made configurations bring to the netlists that are made with them.
use Rattle.std.specs.Prelude.{ℕ, ◌≡◌, Bool, List, Some, slice_get}
use Rattle.dft_netlist.specs.declared.ids.InstanceId.{InstanceId}
use Rattle.dft_behavior.specs.Logic.{Ports}
use Rattle.dft_netlist.specs.Netlist.{Netlist}
use Rattle.dft_config.specs.Config.{Config}
use Rattle.dft_config.specs.Ring.{Table}
use Rattle.dft_stitch.specs.Chains.{plan_of}
use Rattle.dft_cubes.specs.declared.cube.Cube.{Cube}
use Rattle.dft_merge.specs.declared.placed.Placed.{Placed}
use Rattle.dft_merge.specs.Laws.{IsUnsolvable}
use Rattle.dft_scan_frame.specs.Statements.{IsReady}
use Rattle.dft_scan_behavior.specs.EdtVectors.{SuitsEdt}
use Rattle.dft_load_laws.specs.Loading.{LoadsAlways}
use Rattle.dft_encode.specs.Compiled.{Placing}
use Rattle.dft_configuring.specs.declared.configuring.Configured.{Configured}
use Rattle.dft_configuring.specs.declared.wanted.Wanted.{Wanted}
use Rattle.dft_configuring.specs.Configured.{IsConfigured}
use Rattle.dft_configuring.specs.Searching.{IsGood}
use Rattle.dft_configure_laws.specs.Pairs.{AreFew}

-- Some channel bits load any care bits of one scanned cell, or of two, in every run.
abbrev pub LoadsFew : Netlist → Config → Type 0
LoadsFew n config = (ports : Ports) (cells : List (InstanceId × Bool)) → SuitsEdt n config ports → AreFew n config cells → (table : Table) × LoadsAlways n config ports table cells

-- A compilation of any cubes never tells one of these as unsolvable.
abbrev pub SolvesFew : Netlist → Config → Type 0
SolvesFew n config =
    (cubes : List Cube) (placing : Placing config (plan_of n config) cubes) (c : ℕ) (cube : Cube) (placed : Placed) →
    slice_get cubes c ≡ Some cube → slice_get placing.placed c ≡ Some placed → AreFew n config cube.cells → IsUnsolvable placed → ⊥

-- So it is under every made configuration, whose load equations are good.
abbrev pub MadeIsGood : Type 0
MadeIsGood = (n : Netlist) (wanted : Wanted) (configured : Configured) → IsConfigured n wanted configured → IsGood n configured.config

abbrev pub MadeLoads : Type 0
MadeLoads = (n : Netlist) (wanted : Wanted) (configured : Configured) → IsReady n configured.config → IsConfigured n wanted configured → LoadsFew n configured.config

abbrev pub NoneIsUnsolvable : Type 0
NoneIsUnsolvable = (n : Netlist) (wanted : Wanted) (configured : Configured) → IsReady n configured.config → IsConfigured n wanted configured → SolvesFew n configured.config
