-- Scanned netlists can be finished.
use Rattle.dft_netlist.specs.Netlist.{Netlist}
use Rattle.dft_config.specs.Config.{Config}
use Rattle.dft_scan_frame.specs.Statements.{IsReady, CanFinish}
use Rattle.dft_insert.specs.declared.style.Style.{Style}
use Rattle.dft_insert.specs.Statements.{scanned}

-- In it no net has two drivers, and every net can be ordered.
abbrev pub CanBeFinished : Type 0
CanBeFinished = (style : Style) (n : Netlist) (config : Config) → IsReady n config → CanFinish (scanned style n config)
