-- The hardware that scanned netlists have: the planned chains, and in style Edt ring, phase shifter, masks and compactor (Rajski and
-- others, 2004).
use Rattle.std.specs.Prelude.{ℕ, ◌+◌, List, length, map, Option, None, Some}
use Rattle.std.specs.List.{range_with_len}
use Rattle.dft_cells.specs.declared.kind.Role.TheVariants.{ScanIn}
use Rattle.dft_netlist.specs.declared.ids.NetId.{NetId}
use Rattle.dft_netlist.specs.declared.ids.InstanceId.{InstanceId}
use Rattle.dft_netlist.specs.Drivers.{Source, Loose, pins_of}
use Rattle.dft_netlist.specs.Connections.{pin_of}
use Rattle.dft_behavior.specs.Logic.{logic_of, or_loose}
use Rattle.dft_netlist.specs.Netlist.{Netlist}
use Rattle.dft_config.specs.Config.{Config}
use Rattle.dft_stitch.specs.Chains.{plan_of}
use Rattle.dft_stitch.specs.Plans.{cell_at}
use Rattle.dft_chains.specs.Hardware.{ChainNets, HasChains, ScanNets, IsPlain}
use Rattle.dft_edt.specs.Hardware.{EdtNets, IsEdt}
use Rattle.dft_parts.specs.declared.edt_ports.EdtPorts.{EdtPorts}
use Rattle.dft_parts.specs.Growth.{instances_in}
use Rattle.dft_parts.specs.Parts.{Part}
use Rattle.dft_parts.specs.Recipes.{Start, Given, behind, each, start_of}
use Rattle.dft_edt.specs.declared.ring.Ring.{Ring}
use Rattle.dft_edt.specs.RingRecipe.{a_ring}
use Rattle.dft_edt.specs.RingStands.{with_ring}
use Rattle.dft_edt.specs.CompactorStands.{with_compactor}
use Rattle.dft_scan_frame.specs.Statements.{IsReady}
use Rattle.dft_insert.specs.declared.style.Style.{Style}
use Rattle.dft_insert.specs.declared.style.Style.TheVariants.{Plain, Edt}
use Rattle.dft_insert.specs.Chained.{rows, last_net}
use Rattle.dft_insert.specs.Ports.{gap_in, plain_in, plain_out, edt_nets}
use Rattle.dft_insert.specs.Scanned.{an_edt_chain, framed}
use Rattle.dft_insert.specs.Statements.{scanned}
use Rattle.dft_insert.specs.Agreeing.{ports_in}

-- ---- chains

-- what the scan input of a cell takes its bit from, where there is a cell
abbrev pub taken_by : Netlist → Option InstanceId → Source
taken_by w None = Loose 0 0
taken_by w (Some cell) = or_loose cell.0 (pin_of ScanIn cell.0 (pins_of w cell.0))

-- the net of scan_enable, and what leads into each place of the planned chains
abbrev pub chain_nets : Style → Netlist → Config → ChainNets
chain_nets style n config = record {
  enable = (gap_in style n config).before;
  into = λ chain place. taken_by (scanned style n config) (cell_at (plan_of n config).chains chain place);
}

-- In it stand the planned chains: their cells are scan cells, and each leads to the next.
abbrev pub HasScanChains : Type 0
HasScanChains =
    (style : Style) (n : Netlist) (config : Config) → IsReady n config →
    HasChains (logic_of (scanned style n config) (ports_in style n config)) (ports_in style n config) (plan_of n config).chains (chain_nets style n config)

-- the nets at the outputs of the cells, by chain
abbrev pub rows_in : Style → Netlist → Config → Given (List (List NetId))
rows_in style n config = rows n (gap_in style n config) (plan_of n config).chains (start_of (framed style n config))

-- ---- style Plain

-- the chains, and the nets of the ports at both ends of each
abbrev pub plain_nets : Netlist → Config → ScanNets
plain_nets n config = record {
  nets = chain_nets Plain n config;
  scan_in = λ chain. (plain_in (gap_in Plain n config).before chain).0;
  scan_out = λ chain. (plain_out (gap_in Plain n config).before config.chains chain).0;
}

-- In style Plain it has the planned chains between ports of their own.
abbrev pub HasPlainHardware : Type 0
HasPlainHardware =
    (n : Netlist) (config : Config) → IsReady n config →
    IsPlain (logic_of (scanned Plain n config) (ports_in Plain n config)) (ports_in Plain n config) (plan_of n config).chains (plain_nets n config)

-- ---- where the parts of style Edt begin

abbrev pub ports_of : Netlist → Config → EdtPorts
ports_of n config = edt_nets (gap_in Edt n config).before config

abbrev pub ring_start : Netlist → Config → Start
ring_start n config = behind (start_of (framed Edt n config)) (rows_in Edt n config).parts

abbrev pub ring_parts : Netlist → Config → Given Ring
ring_parts n config = a_ring config (ports_of n config) (ring_start n config)

abbrev pub chains_start : Netlist → Config → Start
chains_start n config = behind (ring_start n config) (ring_parts n config).parts

abbrev pub chain_parts : Netlist → Config → List Part
chain_parts n config =
    (each (an_edt_chain n config (plan_of n config) (gap_in Edt n config) (ports_of n config) (ring_parts n config).value.phases (rows_in Edt n config).value) (range_with_len 0 (length (plan_of n config).chains)) (chains_start n config)).parts

abbrev pub compactor_start : Netlist → Config → Start
compactor_start n config = behind (chains_start n config) (chain_parts n config)

-- the number of the first instance of the ring, and of the compactor
abbrev pub ring_number : Netlist → Config → ℕ
ring_number n config = length n.instances + instances_in (rows_in Edt n config).parts

abbrev pub compactor_number : Netlist → Config → ℕ
compactor_number n config = ring_number n config + instances_in (ring_parts n config).parts + instances_in (chain_parts n config)

-- ---- the hardware

abbrev pub no_nets : EdtNets
no_nets = record {
  update = 0;
  clock = 0;
  channel = λ _. 0;
  mask_port = λ _. 0;
  output = λ _. 0;
  run = 0;
  stage = λ _. 0;
  stage_net = λ _. 0;
  mask = λ _. 0;
  mask_net = λ _. 0;
  hold = λ _. 0;
  hold_net = λ _. 0;
  end_net = λ _. 0;
  gated = λ _. 0;
}

-- its nets and flip-flops, as they are made
abbrev pub edt_hardware : Netlist → Config → EdtNets
edt_hardware n config =
    with_compactor config (ports_of n config) (ring_parts n config).value.run (map last_net (rows_in Edt n config).value) (compactor_start n config) (compactor_number n config)
    (with_ring config (ports_of n config) (ring_start n config) (ring_number n config) no_nets)

-- In style Edt it has all of the hardware.
abbrev pub HasEdtHardware : Type 0
HasEdtHardware =
    (n : Netlist) (config : Config) → IsReady n config →
    IsEdt (logic_of (scanned Edt n config) (ports_in Edt n config)) (ports_in Edt n config) config (plan_of n config).chains (chain_nets Edt n config) (edt_hardware n config)
