-- Where the bits of the output ports of a scanned netlist of style Edt stand: first the design's, which keep their nets, then the compactor's.
use Rattle.std.proofs.Common.{ℕ, zero, suc, ◌+◌, ◌≡◌, List, [], ◌∷◌, ◌++◌, length, map, refl, ap, arith, ◌∙◌}
use Rattle.std.specs.List.{range_with_len}
use Rattle.std.proofs.lemmas.Grind.{flat_map-append}
use Rattle.dft_base.specs.Lexing.{Text}
use Rattle.dft_base.specs.declared.dir.Dir.{Dir}
use Rattle.dft_base.specs.declared.dir.Dir.TheVariants.{Input, Output}
use Rattle.dft_netlist.specs.declared.ids.NetId.{NetId}
use Rattle.dft_netlist.specs.declared.port.Port as design_port
use Rattle.dft_netlist.specs.NetNumbers.{nets_from}
use Rattle.dft_netlist.specs.Netlist.{Netlist}
use Rattle.dft_netlist.specs.Sound.{bits_of}
use Rattle.dft_netlist.proofs.LiveDriven.{AreBefore, before_front, before_back}
use Rattle.dft_config.specs.Config.{Config}
use Rattle.dft_expect.specs.Captures.{bits_out, output_bits}
use Rattle.dft_scan_frame.specs.AddedPorts.{NewPort, new_port, numbered, ports_from}
use Rattle.dft_scan_frame.specs.Moves.{moved}
use Rattle.dft_scan_frame.specs.Statements.{IsReady}
use Rattle.dft_scan_frame.proofs.Whole.{moved_front}
use Rattle.dft_insert.specs.declared.style.Style.TheVariants.{Edt}
use Rattle.dft_insert.specs.Ports.{added_ports, compression_ports, gap_in}
use Rattle.dft_insert.specs.Statements.{scanned}
use Rattle.dft_insert.proofs.Keeping.{adds_in_order}
use Rattle.dft_insert.proofs.Driving.{ports_before}
use Rattle.dft_pattern_behavior.proofs.Listed.{AllNets, all_both}

-- the net of the compactor's first output
abbrev pub outs_start : Netlist → Config → ℕ
outs_start n config = (gap_in Edt n config).before + 3 + config.ring.channels + config.compactor.mask_inputs

-- the nets of the compactor's outputs
abbrev pub added_outs : Netlist → Config → List NetId
added_outs n config = nets_from (outs_start n config) (length config.compactor.groups)

past_inputs : (name : Text) (from count net : ℕ) (rest : List NewPort) →
    output_bits (ports_from net (map (λ number. new_port Input (numbered name number)) (range_with_len from count) ++ rest)) ≡ output_bits (ports_from (net + count) rest)
past_inputs name from zero net rest = let e : net ≡ net + zero = omega arith in ap (λ k. output_bits (ports_from k rest)) e
past_inputs name from (suc count) net rest =
    let e : suc net + count ≡ net + suc count = omega arith in
    past_inputs name (from + 1) count (suc net) rest ∙ ap (λ k. output_bits (ports_from k rest)) e

outputs_numbered : (name : Text) (from count net : ℕ) → output_bits (ports_from net (map (λ number. new_port Output (numbered name number)) (range_with_len from count))) ≡ nets_from net count
outputs_numbered name from zero net = refl
outputs_numbered name from (suc count) net = ap (λ (xs : List NetId). record { 0 = net } ∷ xs) (outputs_numbered name (from + 1) count (suc net))

compressed_outs : (config : Config) (net : ℕ) → output_bits (ports_from net (compression_ports config)) ≡ nets_from (net + config.ring.channels + config.compactor.mask_inputs) (length config.compactor.groups)
compressed_outs config net =
    past_inputs config.names.channel 0 config.ring.channels net _
    ∙ past_inputs config.names.mask 0 config.compactor.mask_inputs (net + config.ring.channels) _
    ∙ outputs_numbered config.names.output 0 (length config.compactor.groups) (net + config.ring.channels + config.compactor.mask_inputs)

added_outs_are : (config : Config) (before : ℕ) → output_bits (ports_from before (added_ports Edt config)) ≡ nets_from (before + 3 + config.ring.channels + config.compactor.mask_inputs) (length config.compactor.groups)
added_outs_are config before =
    let three : suc (suc (suc before)) ≡ before + 3 = omega arith in
    ap (λ k. output_bits (ports_from k (compression_ports config))) three ∙ compressed_outs config (before + 3)

pub all_outputs : (n : Netlist) (config : Config) → output_bits (scanned Edt n config).ports ≡ output_bits n.ports ++ added_outs n config
all_outputs n config =
    let before : ℕ = (gap_in Edt n config).before in
    ap (λ (ps : List design_port.Port). output_bits ps) (adds_in_order Edt n config).ports
    ∙ flat_map-append (λ (port : design_port.Port). bits_out port.dir port.bits) n.ports (ports_from before (added_ports Edt config))
    ∙ ap (λ (xs : List NetId). output_bits n.ports ++ xs) (added_outs_are config before)

-- ---- the design's outputs keep their nets

out_kept : (n : Netlist) (config : Config) (d : Dir) (bits : List NetId) → AreBefore (length (bits_of n.ports)) bits → AllNets (λ k. moved (gap_in Edt n config) k ≡ k) (bits_out d bits)
out_kept n config Input bits h = tt
out_kept n config Output [] h = tt
out_kept n config Output (net ∷ bits) h = (moved_front (gap_in Edt n config) net.0 h.0, out_kept n config Output bits h.1)

outs_kept : (n : Netlist) (config : Config) (ports : List design_port.Port) → AreBefore (length (bits_of n.ports)) (bits_of ports) → AllNets (λ k. moved (gap_in Edt n config) k ≡ k) (output_bits ports)
outs_kept n config [] h = tt
outs_kept n config (port ∷ ports) h =
    all_both (λ k. moved (gap_in Edt n config) k ≡ k) (bits_out port.dir port.bits) (output_bits ports) (out_kept n config port.dir port.bits (before_front (length (bits_of n.ports)) port.bits (bits_of ports) h))
    (outs_kept n config ports (before_back (length (bits_of n.ports)) port.bits (bits_of ports) h))

pub outputs_kept : (n : Netlist) (config : Config) → IsReady n config → AllNets (λ k. moved (gap_in Edt n config) k ≡ k) (output_bits n.ports)
outputs_kept n config ready = outs_kept n config n.ports (ports_before n config ready)
