-- Where the bits of the input ports of a scanned netlist of style Edt stand.
use Rattle.std.proofs.Common.{ℕ, zero, suc, ◌+◌, ◌<◌, ◌≤◌, ◌≡◌, ◌==◌, false, List, [], ◌∷◌, ◌++◌, length, map, refl, ap, subst, arith, ◌∙◌}
use Rattle.std.specs.List.{range_with_len}
use Rattle.std.proofs.lemmas.Bool.{eqb-true, or_parts, or_from, false_from_ne_true}
use Rattle.std.proofs.lemmas.Grind.{flat_map-append}
use Rattle.std.proofs.lemmas.List.{length-append}
use Rattle.std.proofs.lemmas.List.FromFn.{length-map-range_with_len}
use Rattle.dft_base.specs.Lexing.{Text}
use Rattle.dft_base.specs.declared.dir.Dir.{Dir}
use Rattle.dft_base.specs.declared.dir.Dir.TheVariants.{Input, Output}
use Rattle.dft_netlist.specs.declared.ids.NetId.{NetId}
use Rattle.dft_netlist.specs.declared.port.Port as design_port
use Rattle.dft_netlist.specs.NetNumbers.{nets_from}
use Rattle.dft_netlist.specs.Netlist.{Netlist}
use Rattle.dft_netlist.specs.Sound.{bits_of}
use Rattle.dft_netlist.proofs.LiveDriven.{AreBefore, before_front, before_back}
use Rattle.dft_config.specs.Config.{Config}
use Rattle.dft_scan_frame.specs.AddedPorts.{NewPort, new_port, numbered, ports_from}
use Rattle.dft_scan_frame.specs.Statements.{IsReady}
use Rattle.dft_insert.specs.declared.style.Style.TheVariants.{Edt}
use Rattle.dft_insert.specs.Ports.{added_ports, compression_ports, gap_in}
use Rattle.dft_insert.specs.Statements.{scanned}
use Rattle.dft_insert.proofs.Keeping.{adds_in_order}
use Rattle.dft_insert.proofs.Driving.{ports_before}
use Rattle.dft_vectors.specs.Signals.{bits_in, input_bits}
use Rattle.dft_pattern_behavior.proofs.Listed.{AllNets, all_both, is_in}

-- ---- the added ports

in_numbered : (name : Text) (from count net : ℕ) (rest : List NewPort) →
    input_bits (ports_from net (map (λ number. new_port Input (numbered name number)) (range_with_len from count) ++ rest)) ≡ nets_from net count ++ input_bits (ports_from (net + count) rest)
in_numbered name from zero net rest = let e : net ≡ net + zero = omega arith in ap (λ k. input_bits (ports_from k rest)) e
in_numbered name from (suc count) net rest =
    let e : suc net + count ≡ net + suc count = omega arith in
    ap (λ (xs : List NetId). record { 0 = net } ∷ xs) (in_numbered name (from + 1) count (suc net) rest ∙ ap (λ k. nets_from (suc net) count ++ input_bits (ports_from k rest)) e)

out_numbered : (name : Text) (from count net : ℕ) → input_bits (ports_from net (map (λ number. new_port Output (numbered name number)) (range_with_len from count))) ≡ []
out_numbered name from zero net = refl
out_numbered name from (suc count) net = out_numbered name (from + 1) count (suc net)

abbrev pub added_nets : (before channels masks : ℕ) → List NetId
added_nets before channels masks =
    record { 0 = before } ∷ record { 0 = before + 1 } ∷ record { 0 = before + 2 } ∷ (nets_from (before + 3) channels ++ (nets_from (before + 3 + channels) masks ++ []))

compressed : (config : Config) (net : ℕ) → input_bits (ports_from net (compression_ports config)) ≡ nets_from net config.ring.channels ++ (nets_from (net + config.ring.channels) config.compactor.mask_inputs ++ [])
compressed config net =
    in_numbered config.names.channel 0 config.ring.channels net _
    ∙ ap (λ (xs : List NetId). nets_from net config.ring.channels ++ xs)
    (in_numbered config.names.mask 0 config.compactor.mask_inputs (net + config.ring.channels) _
    ∙ ap (λ (xs : List NetId). nets_from (net + config.ring.channels) config.compactor.mask_inputs ++ xs)
    (out_numbered config.names.output 0 (length config.compactor.groups) (net + config.ring.channels + config.compactor.mask_inputs)))

added_are : (config : Config) (before : ℕ) → input_bits (ports_from before (added_ports Edt config)) ≡ added_nets before config.ring.channels config.compactor.mask_inputs
added_are config before =
    let one : suc before ≡ before + 1 = omega arith in
    let two : suc (suc before) ≡ before + 2 = omega arith in
    let three : suc (suc (suc before)) ≡ before + 3 = omega arith in
    let rest : ℕ → List NetId = λ k. input_bits (ports_from k (compression_ports config)) in
    ap (λ (k : ℕ). record { 0 = before } ∷ record { 0 = k } ∷ record { 0 = suc (suc before) } ∷ rest (suc (suc (suc before)))) one
    ∙ ap (λ (k : ℕ). record { 0 = before } ∷ record { 0 = before + 1 } ∷ record { 0 = k } ∷ rest (suc (suc (suc before)))) two
    ∙ ap (λ (k : ℕ). record { 0 = before } ∷ record { 0 = before + 1 } ∷ record { 0 = before + 2 } ∷ rest k) three
    ∙ ap (λ (xs : List NetId). record { 0 = before } ∷ record { 0 = before + 1 } ∷ record { 0 = before + 2 } ∷ xs) (compressed config (before + 3))

pub all_inputs : (n : Netlist) (config : Config) → input_bits (scanned Edt n config).ports ≡ input_bits n.ports ++ added_nets (gap_in Edt n config).before config.ring.channels config.compactor.mask_inputs
all_inputs n config =
    let before : ℕ = (gap_in Edt n config).before in
    ap (λ (ps : List design_port.Port). input_bits ps) (adds_in_order Edt n config).ports
    ∙ flat_map-append (λ (port : design_port.Port). bits_in port.dir port.bits) n.ports (ports_from before (added_ports Edt config))
    ∙ ap (λ (xs : List NetId). input_bits n.ports ++ xs) (added_are config before)

-- ---- their numbers

in_before : (count : ℕ) (d : Dir) (bits : List NetId) → AreBefore count bits → AllNets (λ k. k < count) (bits_in d bits)
in_before count Output bits h = tt
in_before count Input [] h = tt
in_before count Input (net ∷ bits) h = (h.0, in_before count Input bits h.1)

ports_in_before : (count : ℕ) (ports : List design_port.Port) → AreBefore count (bits_of ports) → AllNets (λ k. k < count) (input_bits ports)
ports_in_before count [] h = tt
ports_in_before count (port ∷ ports) h =
    all_both (λ k. k < count) (bits_in port.dir port.bits) (input_bits ports) (in_before count port.dir port.bits (before_front count port.bits (bits_of ports) h)) (ports_in_before count ports (before_back count port.bits (bits_of ports) h))

-- those of the design stand before the gap
pub own_before : (n : Netlist) (config : Config) → IsReady n config → AllNets (λ k. k < length (bits_of n.ports)) (input_bits n.ports)
own_before n config ready = ports_in_before (length (bits_of n.ports)) n.ports (ports_before n config ready)

abbrev Within : (low high : ℕ) → ℕ → Type 0
Within low high k = (low ≤ k) × (k < high)

from_within : (low high from count : ℕ) → low ≤ from → from + count ≤ high → AllNets (Within low high) (nets_from from count)
from_within low high from zero h k = tt
from_within low high from (suc count) h k = ((h, omega (arith, k)), from_within low high (suc from) count (omega (arith, h)) (omega (arith, k)))

added_within : (before channels masks width : ℕ) → 3 + channels + masks ≤ width → AllNets (Within before (before + width)) (added_nets before channels masks)
added_within before channels masks width h =
    let ports = from_within before (before + width) (before + 3) channels (omega arith) (omega (arith, h)) in
    let segments = from_within before (before + width) (before + 3 + channels) masks (omega arith) (omega (arith, h)) in
    let numbered_ports = all_both (Within before (before + width)) (nets_from (before + 3) channels) (nets_from (before + 3 + channels) masks ++ []) ports (all_both (Within before (before + width)) (nets_from (before + 3 + channels) masks) [] segments tt) in
    ((omega arith, omega (arith, h)), ((omega arith, omega (arith, h)), ((omega arith, omega (arith, h)), numbered_ports)))

wide : (config : Config) → 3 + config.ring.channels + config.compactor.mask_inputs ≤ length (added_ports Edt config)
wide config =
    let ins : List NewPort = map (λ number. new_port Input (numbered config.names.channel number)) (range_with_len 0 config.ring.channels) in
    let masks : List NewPort = map (λ number. new_port Input (numbered config.names.mask number)) (range_with_len 0 config.compactor.mask_inputs) in
    let outs : List NewPort = map (λ number. new_port Output (numbered config.names.output number)) (range_with_len 0 (length config.compactor.groups)) in
    let a : length (ins ++ (masks ++ outs)) ≡ length ins + length (masks ++ outs) = length-append ins (masks ++ outs) in
    let b : length (masks ++ outs) ≡ length masks + length outs = length-append masks outs in
    let c : length ins ≡ config.ring.channels = length-map-range_with_len (λ number. new_port Input (numbered config.names.channel number)) 0 config.ring.channels in
    let d : length masks ≡ config.compactor.mask_inputs = length-map-range_with_len (λ number. new_port Input (numbered config.names.mask number)) 0 config.compactor.mask_inputs in
    omega (arith, a, b, c, d)

pub gap_within : (n : Netlist) (config : Config) → AllNets (Within (gap_in Edt n config).before ((gap_in Edt n config).before + (gap_in Edt n config).width)) (added_nets (gap_in Edt n config).before config.ring.channels config.compactor.mask_inputs)
gap_within n config = added_within (gap_in Edt n config).before config.ring.channels config.compactor.mask_inputs (length (added_ports Edt config)) (wide config)

-- ---- nets that stand elsewhere

pub not_in : (P : ℕ → Type 0) (xs : List NetId) (net : ℕ) → AllNets P xs → (P net → ⊥) → is_in xs net ≡ false
not_in P [] net h never = refl
not_in P (x ∷ xs) net h never = or_from (x.0 == net) (is_in xs net) (false_from_ne_true (x.0 == net) (λ same. never (subst P (eqb-true x.0 net same) h.0))) (not_in P xs net h.1 never)

pub not_in_both : (xs ys : List NetId) (net : ℕ) → is_in xs net ≡ false → is_in ys net ≡ false → is_in (xs ++ ys) net ≡ false
not_in_both [] ys net h k = k
not_in_both (x ∷ xs) ys net h k = let apart = or_parts (x.0 == net) (is_in xs net) h in or_from (x.0 == net) (is_in (xs ++ ys) net) apart.0 (not_in_both xs ys net apart.1 k)
