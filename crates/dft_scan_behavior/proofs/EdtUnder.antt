-- The hardware under all ports that suit, and a rank of its nets.
use Rattle.std.proofs.Common.{ℕ}
use Rattle.dft_behavior.specs.Logic.{Ports, IsRanked}
use Rattle.dft_netlist.specs.Netlist.{Netlist}
use Rattle.dft_config.specs.Config.{Config}
use Rattle.dft_runs.proofs.WiderPortsLemmas.{ports_widen}
use Rattle.dft_stitch.specs.Chains.{plan_of}
use Rattle.dft_stitch.specs.Plans.{falling_head}
use Rattle.dft_edt.specs.Hardware.{HeadsAre}
use Rattle.dft_edt.proofs.Staying.{hardware_stays, heads_stay}
use Rattle.dft_scan_frame.specs.Statements.{IsReady}
use Rattle.dft_insert.specs.declared.style.Style.TheVariants.{Edt}
use Rattle.dft_insert.specs.Statements.{scanned}
use Rattle.dft_insert.proofs.Finished.{scanned_orderable}
use Rattle.dft_insert.specs.Agreeing.{ports_in}
use Rattle.dft_scan_behavior.specs.EdtVectors.{SuitsEdt, edt_logic, HasEdtUnder}
use Rattle.dft_scan_behavior.specs.Facts.{chain_nets, edt_hardware}
use Rattle.dft_scan_behavior.proofs.EdtHave.{head_edge, edt_has}
use Rattle.dft_scan_behavior.proofs.Heights.{ranked}

pub edt_under : HasEdtUnder
edt_under n config ports ready suits =
    let stay = hardware_stays (edt_logic n config (ports_in Edt n config)) (edt_logic n config ports) (ports_in Edt n config) config (plan_of n config).chains (chain_nets Edt n config) (edt_hardware n config)
    (ports_widen (scanned Edt n config) (ports_in Edt n config) ports suits).logic in
    let has = edt_has n config ready in
    record { ring = stay.0 has.ring; compactor = stay.1 has.compactor }

-- which chains begin with a falling cell
pub edt_heads : (n : Netlist) (config : Config) (ports : Ports) → IsReady n config → SuitsEdt n config ports → HeadsAre (edt_logic n config ports) (plan_of n config).chains (falling_head (plan_of n config))
edt_heads n config ports ready suits =
    heads_stay (edt_logic n config (ports_in Edt n config)) (edt_logic n config ports) (ports_in Edt n config) config (plan_of n config).chains (chain_nets Edt n config) (edt_hardware n config) (falling_head (plan_of n config))
    (ports_widen (scanned Edt n config) (ports_in Edt n config) ports suits).logic (edt_has n config ready).ring (λ chain cell stands. head_edge n config ready chain cell stands)

pub edt_rank : (n : Netlist) (config : Config) (ports : Ports) → IsReady n config → (rank : ℕ → ℕ) × IsRanked (edt_logic n config ports) rank
edt_rank n config ports ready = ranked (scanned Edt n config) ports (λ net. scanned_orderable Edt n config ready net)
