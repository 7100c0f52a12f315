-- What the design's own inputs do, by what was looked up of them.
use Rattle.std.proofs.Common.{◌≡◌, ℕ, zero, suc, ◌<◌, Bool, false, List, [], ◌∷◌, map, length, get_or, Option, None, Some, refl, ap, ap₂, ◌∙◌}
use Rattle.std.specs.Prelude.{option_and_then, slice_get}
use Rattle.std.specs.List.{All, list_any}
use Rattle.std.proofs.lemmas.Simd.{map-map}
use Rattle.std.proofs.lemmas.Option.{slice_get-get_or}
use Rattle.std.proofs.lemmas.List.Elements.{All-nil, All-append}
use Rattle.dft_base.specs.declared.dir.Dir.{Dir}
use Rattle.dft_base.specs.declared.dir.Dir.TheVariants.{Input, Output}
use Rattle.dft_base.proofs.ListLemmas.{any_map}
use Rattle.dft_netlist.specs.declared.port.Port.{Port}
use Rattle.dft_netlist.specs.Sound.{IsNetlist}
use Rattle.dft_netlist.proofs.LiveLemmas.{bit_live}
use Rattle.dft_netlist.specs.declared.ids.NetId.{NetId}
use Rattle.dft_netlist.specs.Netlist.{Netlist}
use Rattle.dft_netlist.specs.Connections.{input_net}
use Rattle.dft_config.specs.Config.{Config}
use Rattle.dft_rules.specs.Rules.{is_net}
use Rattle.dft_cubes.specs.declared.cube.Merged.{Merged}
use Rattle.dft_expect.specs.Captures.{config_ports, port_value, vector_of, capture_clock, bit_of_port, bits_out, output_bits}
use Rattle.dft_vectors.specs.declared.own.OwnInput.{OwnInput}
use Rattle.dft_vectors.specs.declared.own.OwnPorts.{OwnPorts}
use Rattle.dft_vectors.specs.Signals.{bits_in, input_bits}
use Rattle.dft_vectors.specs.OwnPorts.{driven, inputs_by, quiet_vector, pulsing_vector}
use Rattle.dft_vectors.specs.Tables.{AreOwn, nets_named, own_input}
use Rattle.dft_vectors.proofs.ListLemmas.{same_on}

-- what a bit is for, by the nets of the clocks and the resets
pub found_as : (n : Netlist) (config : Config) (clocks resets : List (Option NetId)) → clocks ≡ nets_named n config.domains → resets ≡ nets_named n config.resets → (nets : List NetId) →
    map (λ net. record { net = net; is_clock = list_any (is_net net.0) clocks; is_reset = list_any (is_net net.0) resets }) nets ≡ map (own_input n config) nets
found_as n config clocks resets c r nets =
    (λ i. map (λ (net : NetId). record { net = net; is_clock = list_any (is_net net.0) (c i); is_reset = list_any (is_net net.0) (r i) }) nets)
    ∙ (λ i. map (λ (net : NetId). record { net = net; is_clock = any_map (is_net net.0) (input_net n) config.domains i; is_reset = any_map (is_net net.0) (input_net n) config.resets i }) nets)

pub quiet_inputs : (n : Netlist) (config : Config) (inputs : List OwnInput) → inputs ≡ map (own_input n config) (input_bits n.ports) →
    map (λ input. driven false (port_value input.is_reset None)) inputs ≡ inputs_by n (quiet_vector n config)
quiet_inputs n config inputs is = ap (map (λ (input : OwnInput). driven false (port_value input.is_reset None))) is ∙ map-map (λ (input : OwnInput). driven false (port_value input.is_reset None)) (own_input n config) (input_bits n.ports)

pub pulsing_inputs : (n : Netlist) (config : Config) (inputs : List OwnInput) → inputs ≡ map (own_input n config) (input_bits n.ports) →
    map (λ input. driven input.is_clock (port_value input.is_reset None)) inputs ≡ inputs_by n (pulsing_vector n config)
pulsing_inputs n config inputs is = ap (map (λ (input : OwnInput). driven input.is_clock (port_value input.is_reset None))) is ∙ map-map (λ (input : OwnInput). driven input.is_clock (port_value input.is_reset None)) (own_input n config) (input_bits n.ports)

clock_found : (n : Netlist) (names : List (List ℕ)) (domain : ℕ) → get_or (nets_named n names) domain None ≡ option_and_then (input_net n) (slice_get names domain)
clock_found n [] domain = refl
clock_found n (name ∷ names) zero = refl
clock_found n (name ∷ names) (suc domain) = clock_found n names domain

-- the inputs of a capture
pub captured_inputs : (n : Netlist) (config : Config) (own : OwnPorts) (merged : Merged) (domain : ℕ) (clock : Option NetId) (given : List (Option Bool)) → AreOwn n config own →
    clock ≡ get_or own.clocks.items domain None → ((net : ℕ) → net < own.nets → get_or given net None ≡ bit_of_port merged.ports net) →
    map (λ input. driven (is_net input.net.0 clock) (port_value input.is_reset (get_or given input.net.0 None))) own.inputs.items ≡ inputs_by n (vector_of n config merged domain)
captured_inputs n config own merged domain clock given are at same =
    let found : clock ≡ capture_clock n config domain = at ∙ ap (λ l. get_or l domain None) are.clocks ∙ clock_found n config.domains domain in
    let f = λ (input : OwnInput). driven (is_net input.net.0 clock) (port_value input.is_reset (get_or given input.net.0 None)) in
    let x = vector_of n config merged domain in
    ap (map f) are.inputs
    ∙ map-map f (own_input n config) (input_bits n.ports)
    ∙ same_on (λ net. net.0 < own.nets) (λ net. f (own_input n config net)) (λ net. driven (x.pulsed net.0) (x.ports net.0))
    (λ net less. ap₂ (λ c b. driven (is_net net.0 c) (port_value ((config_ports n config).is_reset net.0) b)) found (same net.0 less)) (input_bits n.ports) are.live

-- ---- the bits of ports are nets

all_from_get : {X : Type 0} (P : X → Type 0) (xs : List X) → ((k : ℕ) (x : X) → slice_get xs k ≡ Some x → P x) → All P xs
all_from_get P xs each = λ k d less. each k (get_or xs k d) (slice_get-get_or xs k d less)

in_live : (P : NetId → Type 0) (dir : Dir) (bits : List NetId) → All P bits → All P (bits_in dir bits)
in_live P Input bits all = all
in_live P Output bits all = All-nil P

out_live : (P : NetId → Type 0) (dir : Dir) (bits : List NetId) → All P bits → All P (bits_out dir bits)
out_live P Input bits all = All-nil P
out_live P Output bits all = all

-- what holds of each bit of each port
abbrev OfBits : (P : NetId → Type 0) → List Port → Type 0
OfBits P ports = (place bit : ℕ) (port : Port) (net : NetId) → slice_get ports place ≡ Some port → slice_get port.bits bit ≡ Some net → P net

ins_live : (P : NetId → Type 0) (ports : List Port) → OfBits P ports → All P (input_bits ports)
ins_live P [] each = All-nil P
ins_live P (port ∷ ports) each =
    All-append P (bits_in port.dir port.bits) (input_bits ports) (in_live P port.dir port.bits (all_from_get P port.bits (λ k net at. each 0 k port net refl at)))
    (ins_live P ports (λ place bit q net at joined. each (suc place) bit q net at joined))

outs_live : (P : NetId → Type 0) (ports : List Port) → OfBits P ports → All P (output_bits ports)
outs_live P [] each = All-nil P
outs_live P (port ∷ ports) each =
    All-append P (bits_out port.dir port.bits) (output_bits ports) (out_live P port.dir port.bits (all_from_get P port.bits (λ k net at. each 0 k port net refl at)))
    (outs_live P ports (λ place bit q net at joined. each (suc place) bit q net at joined))

pub inputs_live : (n : Netlist) → IsNetlist n → All (λ net. net.0 < length n.nets) (input_bits n.ports)
inputs_live n sound = ins_live (λ net. net.0 < length n.nets) n.ports (bit_live n sound)

pub outputs_live : (n : Netlist) → IsNetlist n → All (λ net. net.0 < length n.nets) (output_bits n.ports)
outputs_live n sound = outs_live (λ net. net.0 < length n.nets) n.ports (bit_live n sound)
