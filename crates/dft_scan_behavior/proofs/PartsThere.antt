-- The parts of style Edt stand in the scanned netlist, each behind those before it.
use Rattle.std.proofs.Common.{◌+◌, ◌++◌, length, map, sym, subst}
use Rattle.dft_cells.specs.WellFormed.{IsWellFormed}
use Rattle.dft_netlist.specs.Netlist.{Netlist}
use Rattle.dft_behavior.specs.Logic.{Ports, logic_of}
use Rattle.dft_config.specs.Config.{Config}
use Rattle.dft_parts.specs.Growth.{HasParts, instances_in}
use Rattle.dft_parts.specs.Standing.{IsClockNet}
use Rattle.dft_parts.proofs.Growing.{parts_grow}
use Rattle.dft_parts.proofs.Trees.{front, back}
use Rattle.dft_edt.specs.Hardware.{EdtNets}
use Rattle.dft_edt.specs.RingStands.{with_ring, HasRingParts}
use Rattle.dft_edt.proofs.RingFacts.{ring_stands}
use Rattle.dft_edt.specs.CompactorStands.{with_compactor, HasCompactorParts}
use Rattle.dft_edt.proofs.CompactorFacts.{compactor_stands}
use Rattle.dft_scan_frame.specs.Statements.{IsReady}
use Rattle.dft_insert.specs.declared.style.Style.TheVariants.{Edt}
use Rattle.dft_insert.specs.Chained.{last_net}
use Rattle.dft_insert.specs.Scanned.{framed}
use Rattle.dft_insert.specs.Statements.{scanned, made_in}
use Rattle.dft_insert.proofs.Finished.{scanned_single}
use Rattle.dft_scan_behavior.proofs.Cuts.{compactor_list, all_there}
use Rattle.dft_scan_behavior.specs.Facts.{ports_of, rows_in, ring_start, ring_parts, chain_parts, compactor_start, ring_number, compactor_number}

behind_there : (n : Netlist) (config : Config) → HasParts (scanned Edt n config) (ring_number n config) ((ring_parts n config).parts ++ (chain_parts n config ++ compactor_list n config))
behind_there n config = back (scanned Edt n config) (length n.instances) (rows_in Edt n config).parts ((ring_parts n config).parts ++ (chain_parts n config ++ compactor_list n config)) (all_there Edt n config)

ring_there : (n : Netlist) (config : Config) → HasParts (scanned Edt n config) (ring_number n config) (ring_parts n config).parts
ring_there n config = front (scanned Edt n config) (ring_number n config) (ring_parts n config).parts (chain_parts n config ++ compactor_list n config) (behind_there n config)

compactor_there : (n : Netlist) (config : Config) → HasParts (scanned Edt n config) (compactor_number n config) (compactor_list n config)
compactor_there n config =
    back (scanned Edt n config) (ring_number n config + instances_in (ring_parts n config).parts) (chain_parts n config) (compactor_list n config)
    (back (scanned Edt n config) (ring_number n config) (ring_parts n config).parts (chain_parts n config ++ compactor_list n config) (behind_there n config))

-- ---- what they are

pub ring_has : (n : Netlist) (config : Config) (ports : Ports) (hw : EdtNets) → IsReady n config → IsClockNet (scanned Edt n config) ports (ports_of n config).edt_clock.0 →
    HasRingParts (logic_of (scanned Edt n config) ports) config (with_ring config (ports_of n config) (ring_start n config) (ring_number n config) hw) (ring_parts n config).value.phases
ring_has n config ports hw ready clock =
    let same = (parts_grow (framed Edt n config) (made_in Edt n config)).library in
    ring_stands (scanned Edt n config) ports config (ports_of n config) (ring_start n config) (ring_number n config) hw (scanned_single Edt n config ready) (subst IsWellFormed (sym same) ready.library) (sym same) clock ready.range (ring_there n config)

pub compactor_has : (n : Netlist) (config : Config) (ports : Ports) (hw : EdtNets) → IsReady n config → IsClockNet (scanned Edt n config) ports (ports_of n config).edt_clock.0 →
    HasCompactorParts (logic_of (scanned Edt n config) ports) config (with_compactor config (ports_of n config) (ring_parts n config).value.run (map last_net (rows_in Edt n config).value) (compactor_start n config) (compactor_number n config) hw)
compactor_has n config ports hw ready clock =
    let same = (parts_grow (framed Edt n config) (made_in Edt n config)).library in
    compactor_stands (scanned Edt n config) ports config (ports_of n config) (ring_parts n config).value.run (map last_net (rows_in Edt n config).value) (compactor_start n config) (compactor_number n config) hw (scanned_single Edt n config ready) (subst IsWellFormed (sym same) ready.library) (sym same) clock
    ready.range (compactor_there n config)
