-- The ports that each style adds, and their nets.
use Rattle.std.specs.Prelude.{ℕ, ◌+◌, List, ◌∷◌, ◌++◌, length}
use Rattle.dft_base.specs.declared.dir.Dir.TheVariants.{Input, Output}
use Rattle.dft_netlist.specs.declared.ids.NetId.{NetId}
use Rattle.dft_netlist.specs.NetNumbers.{nets_from}
use Rattle.dft_netlist.specs.Netlist.{Netlist}
use Rattle.dft_config.specs.Config.{Config}
use Rattle.dft_parts.specs.declared.edt_ports.EdtPorts.{EdtPorts}
use Rattle.dft_scan_frame.specs.AddedPorts.{NewPort, new_port, numbered_ports, plain_ports}
use Rattle.dft_scan_frame.specs.Moves.{Gap, gap_of}
use Rattle.dft_insert.specs.declared.style.Style.{Style}
use Rattle.dft_insert.specs.declared.style.Style.TheVariants.{Plain, Edt}

-- the channels, the mask ports and the outputs
abbrev pub compression_ports : Config → List NewPort
compression_ports config =
    numbered_ports Input config.names.channel config.ring.channels
    ++ (numbered_ports Input config.names.mask config.compactor.mask_inputs ++ numbered_ports Output config.names.output (length config.compactor.groups))

-- scan_enable, edt_clock and edt_update, then the channels, the mask ports and the outputs
abbrev pub edt_ports : Config → List NewPort
edt_ports config =
    new_port Input config.names.scan_enable ∷ new_port Input config.names.edt_clock ∷ new_port Input config.names.edt_update ∷ compression_ports config

-- style Plain adds scan_enable, then a scan input for each chain, then a scan output for each chain
abbrev pub added_ports : Style → Config → List NewPort
added_ports Plain config = plain_ports config
added_ports Edt config = edt_ports config

-- where the nets of the added ports stand: behind those of the design's ports, before its other nets
abbrev pub gap_in : Style → Netlist → Config → Gap
gap_in style n config = gap_of n (length (added_ports style config))

-- ---- their nets, by the number of the first

-- style Plain: of the scan input and of the scan output of a chain
abbrev pub plain_in : (first chain : ℕ) → NetId
plain_in first chain = record { 0 = first + 1 + chain }

abbrev pub plain_out : (first chains chain : ℕ) → NetId
plain_out first chains chain = record { 0 = first + 1 + chains + chain }

-- style Edt
abbrev pub edt_nets : (first : ℕ) → Config → EdtPorts
edt_nets first config =
    let channels = first + 3 in
    let masks = channels + config.ring.channels in
    let outputs = masks + config.compactor.mask_inputs in record {
      scan_enable = record { 0 = first };
      edt_clock = record { 0 = first + 1 };
      edt_update = record { 0 = first + 2 };
      channels = nets_from channels config.ring.channels;
      masks = nets_from masks config.compactor.mask_inputs;
      outputs = nets_from outputs (length config.compactor.groups);
    }
