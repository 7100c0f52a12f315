-- A finished design that the scan rules pass is ready.
use Rattle.std.proofs.Common.{◌≡◌, None}
use Rattle.dft_cells.specs.WellFormed.{IsWellFormed}
use Rattle.dft_netlist.specs.Netlist.{Netlist}
use Rattle.dft_netlist.specs.NetDrivers.{IsSingle}
use Rattle.dft_netlist.specs.Orders.{HasOrder}
use Rattle.dft_netlist.specs.Sound.{IsNetlist}
use Rattle.dft_config.specs.Config.{Config}
use Rattle.dft_config.specs.Range.{IsInRange}
use Rattle.dft_rules.specs.Refusals as rules
use Rattle.dft_scan_frame.specs.Statements.{IsReady}

pub ready_of : (n : Netlist) (config : Config) → IsNetlist n → IsWellFormed n.library → IsSingle n → HasOrder n → IsInRange config → rules.refusal n config ≡ None → IsReady n config
ready_of n config netlist library single ordered range passed =
    record { netlist = netlist; library = library; single = single; order = ordered.order; ordered = ordered.is; range = range; passed = passed }
