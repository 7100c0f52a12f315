-- Recipes that join no pin.
use Rattle.std.proofs.Common.{ℕ, zero, suc, ◌+◌, List, [], ◌∷◌, ◌++◌, length, map}
use Rattle.std.specs.List.{range_with_len}
use Rattle.dft_cells.specs.declared.kind.Gate.{Gate as GateKind}
use Rattle.dft_cells.specs.declared.kind.Gate.TheVariants.{Buf, Inv, And, Or, Xor}
use Rattle.dft_cells.specs.declared.cell.CellId.{CellId}
use Rattle.dft_netlist.specs.declared.ids.NetId.{NetId}
use Rattle.dft_netlist.specs.declared.instance.CellRef.TheVariants.{Library, Gate}
use Rattle.dft_netlist.specs.declared.instance.Signal.{Signal}
use Rattle.dft_netlist.specs.declared.instance.Signal.TheVariants.{Net}
use Rattle.dft_config.specs.Config.{Config}
use Rattle.dft_config.specs.declared.config.RingConfig.{RingConfig}
use Rattle.dft_parts.specs.declared.edt_ports.EdtPorts.{EdtPorts}
use Rattle.dft_parts.specs.Parts.{Part, ANet, AnInstance}
use Rattle.dft_parts.specs.Recipes.{Recipe, pure, ◌>>=◌, ◌>>◌, each, collect, net_at, nets_made, a_net, at_nets, a_gate, a_flop, a_lockup}
use Rattle.dft_parts.specs.Sums.{a_driving_gate, pairs, levels, first_net, a_sum}
use Rattle.dft_edt.specs.Hardware.{group_of}
use Rattle.dft_config.specs.Segments.{segment_length}
use Rattle.dft_edt.specs.declared.ring.Ring.{Ring}
use Rattle.dft_edt.specs.RingRecipe.{stage_terms, a_stage, a_phase, a_ring}
use Rattle.dft_edt.proofs.Made.{end_with}
use Rattle.dft_edt.specs.declared.mask_nets.MaskNets.{MaskNets}
use Rattle.dft_edt.specs.CompactorRecipe.{a_next, a_mask, a_segment, segments, masks_at, a_gated, an_output, a_compactor}
use Rattle.dft_edt.proofs.Masking.{pair_of}
use Rattle.dft_insert.proofs.Joins.{Holds, holds_pure, holds_bind, holds_each, holds_collect}

-- it holds of every net, of every instance of a cell of the library, and of every gate between nets
pub record HoldsFree (P : Part → Type 0) : Type 0 where
  pub net : P ANet
  pub cell : (id : CellId) (pins : List Signal) → P (AnInstance (Library id) pins)
  pub gate : (kind : GateKind) (inputs : List NetId) (output : NetId) → P (AnInstance (Gate kind (length inputs)) (at_nets inputs ++ Net output ∷ []))

pub net_free : (P : Part → Type 0) → HoldsFree P → Holds P a_net
net_free P f at = (f.net, tt)

pub gate_free : (P : Part → Type 0) (kind : GateKind) (inputs : List NetId) (output : NetId) → HoldsFree P → Holds P (a_gate kind inputs output)
gate_free P kind inputs output f at = (f.gate kind inputs output, tt)

pub flop_free : (P : Part → Type 0) (clock input output : NetId) → HoldsFree P → Holds P (a_flop clock input output)
flop_free P clock input output f at = (f.cell _ _, tt)

pub lockup_free : (P : Part → Type 0) (clock input output : NetId) → HoldsFree P → Holds P (a_lockup clock input output)
lockup_free P clock input output f at = (f.cell _ _, tt)

pub driving_free : (P : Part → Type 0) (kind : GateKind) (inputs : List NetId) → HoldsFree P → Holds P (a_driving_gate kind inputs)
unfolding a_driving_gate
driving_free P kind inputs f =
    holds_bind P a_net (λ output. a_gate kind inputs output >> pure output) (net_free P f)
    (λ output. holds_bind P (a_gate kind inputs output) (λ _. pure output) (gate_free P kind inputs output f) (λ _. holds_pure P output))

pairs_free : (P : Part → Type 0) (nets : List NetId) → HoldsFree P → Holds P (pairs nets)
unfolding pairs
pairs_free P [] f = holds_pure {A = List NetId} P []
pairs_free P (a ∷ []) f = holds_pure P (a ∷ [])
pairs_free P (a ∷ b ∷ nets) f =
    holds_bind P (a_driving_gate Xor (a ∷ b ∷ [])) (λ joined. pairs nets >>= (λ more. pure (joined ∷ more))) (driving_free P Xor (a ∷ b ∷ []) f)
    (λ joined. holds_bind P (pairs nets) (λ more. pure (joined ∷ more)) (pairs_free P nets f) (λ more. holds_pure P (joined ∷ more)))

levels_free : (P : Part → Type 0) (count : ℕ) (nets : List NetId) → HoldsFree P → Holds P (levels count nets)
unfolding levels
levels_free P zero nets f = holds_pure {A = List NetId} P nets
levels_free P (suc count) nets f = holds_bind P (pairs nets) (λ joined. levels count joined) (pairs_free P nets f) (λ joined. levels_free P count joined f)

pub sum_free : (P : Part → Type 0) (terms : List NetId) → HoldsFree P → Holds P (a_sum terms)
unfolding a_sum
sum_free P terms f = holds_bind P (levels (length terms) terms) (λ left. pure (first_net left)) (levels_free P (length terms) terms f) (λ left. holds_pure P (first_net left))

-- ---- the ring

stage_free : (P : Part → Type 0) (ring : RingConfig) (ports : EdtPorts) (run : NetId) (stages : List NetId) (stage : ℕ) → HoldsFree P → Holds P (a_stage ring ports run stages stage)
unfolding a_stage
stage_free P ring ports run stages stage f =
    holds_bind P (a_sum (stage_terms ring ports.channels stages stage)) (λ sum. a_driving_gate And (sum ∷ run ∷ []) >>= (λ kept. a_flop ports.edt_clock kept (net_at stages stage))) (sum_free P (stage_terms ring ports.channels stages stage) f)
    (λ sum. holds_bind P (a_driving_gate And (sum ∷ run ∷ [])) (λ kept. a_flop ports.edt_clock kept (net_at stages stage)) (driving_free P And (sum ∷ run ∷ []) f) (λ kept. flop_free P ports.edt_clock kept (net_at stages stage) f))

abbrev phased : Config → (run : NetId) → (stages : List NetId) → (Unit {0}) → Recipe Ring
phased config run stages done = collect (a_phase config.ring stages) (range_with_len 0 config.chains) >>= end_with run

abbrev staged : Config → EdtPorts → (run : NetId) → (stages : List NetId) → Recipe Ring
staged config ports run stages = each (a_stage config.ring ports run stages) (range_with_len 0 config.ring.stages) >>= phased config run stages

abbrev running : Config → EdtPorts → (run : NetId) → Recipe Ring
running config ports run = nets_made config.ring.stages >>= staged config ports run

pub ring_free : (P : Part → Type 0) (config : Config) (ports : EdtPorts) → HoldsFree P → Holds P (a_ring config ports)
unfolding a_ring
ring_free P config ports f =
    holds_bind P (a_driving_gate Inv (ports.edt_update ∷ [])) (running config ports) (driving_free P Inv (ports.edt_update ∷ []) f)
    (λ run. holds_bind P (nets_made config.ring.stages) (staged config ports run) (holds_collect P (λ _. a_net) (range_with_len 0 config.ring.stages) (λ k x there. net_free P f))
    (λ stages. holds_bind P (each (a_stage config.ring ports run stages) (range_with_len 0 config.ring.stages)) (phased config run stages)
    (holds_each P (a_stage config.ring ports run stages) (range_with_len 0 config.ring.stages) (λ k stage there. stage_free P config.ring ports run stages stage f))
    (λ done. holds_bind P (collect (a_phase config.ring stages) (range_with_len 0 config.chains)) (end_with run)
    (holds_collect P (a_phase config.ring stages) (range_with_len 0 config.chains) (λ k chain there. sum_free P _ f)) (λ phases. holds_pure {A = Ring} P (record { run = run; phases = phases })))))

-- ---- the compactor

next_free : (P : Part → Type 0) (ports : EdtPorts) (run : NetId) (nets : MaskNets) → HoldsFree P → Holds P (a_next ports run nets)
unfolding a_next
next_free P ports run nets f =
    holds_bind P (a_driving_gate And (ports.edt_update ∷ nets.mask ∷ [])) (λ taken. a_driving_gate And (run ∷ nets.hold ∷ []) >>= (λ kept. a_driving_gate Or (taken ∷ kept ∷ []))) (driving_free P And (ports.edt_update ∷ nets.mask ∷ []) f)
    (λ taken. holds_bind P (a_driving_gate And (run ∷ nets.hold ∷ [])) (λ kept. a_driving_gate Or (taken ∷ kept ∷ [])) (driving_free P And (run ∷ nets.hold ∷ []) f) (λ kept. driving_free P Or (taken ∷ kept ∷ []) f))

abbrev held : EdtPorts → (run mask : NetId) → (hold : NetId) → Recipe MaskNets
held ports run mask hold = a_next ports run (pair_of mask hold) >>= (λ next. a_flop ports.edt_clock next hold >> pure (pair_of mask hold))

abbrev masked : EdtPorts → (run before : NetId) → (mask : NetId) → Recipe MaskNets
masked ports run before mask = a_flop ports.edt_clock before mask >> (a_net >>= held ports run mask)

mask_free : (P : Part → Type 0) (ports : EdtPorts) (run before : NetId) → HoldsFree P → Holds P (a_mask ports run before)
unfolding a_mask
mask_free P ports run before f =
    holds_bind P a_net (masked ports run before) (net_free P f)
    (λ mask. holds_bind P (a_flop ports.edt_clock before mask) (λ _. a_net >>= held ports run mask) (flop_free P ports.edt_clock before mask f)
    (λ _. holds_bind P a_net (held ports run mask) (net_free P f)
    (λ hold. holds_bind P (a_next ports run (pair_of mask hold)) (λ next. a_flop ports.edt_clock next hold >> pure (pair_of mask hold)) (next_free P ports run (pair_of mask hold) f)
    (λ next. holds_bind P (a_flop ports.edt_clock next hold) (λ _. pure (pair_of mask hold)) (flop_free P ports.edt_clock next hold f) (λ _. holds_pure P (pair_of mask hold))))))

segment_free : (P : Part → Type 0) (ports : EdtPorts) (run before : NetId) (count : ℕ) → HoldsFree P → Holds P (a_segment ports run before count)
unfolding a_segment
segment_free P ports run before zero f = holds_pure {A = List MaskNets} P []
segment_free P ports run before (suc count) f =
    holds_bind P (a_mask ports run before) (λ first. a_segment ports run first.mask count >>= (λ more. pure (first ∷ more))) (mask_free P ports run before f)
    (λ first. holds_bind P (a_segment ports run first.mask count) (λ more. pure (first ∷ more)) (segment_free P ports run first.mask count f) (λ more. holds_pure P (first ∷ more)))

segments_free : (P : Part → Type 0) (config : Config) (ports : EdtPorts) (run : NetId) (segment count : ℕ) → HoldsFree P → Holds P (segments config ports run segment count)
unfolding segments
segments_free P config ports run segment zero f = holds_pure {A = List MaskNets} P []
segments_free P config ports run segment (suc count) f =
    holds_bind P (a_segment ports run (net_at ports.masks segment) (segment_length config segment)) (λ first. segments config ports run (segment + 1) count >>= (λ more. pure (first ++ more))) (segment_free P ports run (net_at ports.masks segment) (segment_length config segment) f)
    (λ first. holds_bind P (segments config ports run (segment + 1) count) (λ more. pure (first ++ more)) (segments_free P config ports run (segment + 1) count f) (λ more. holds_pure P (first ++ more)))

gated_free : (P : Part → Type 0) (hold end : NetId) → HoldsFree P → Holds P (a_gated hold end)
unfolding a_gated
gated_free P hold end f = holds_bind P (a_driving_gate Inv (hold ∷ [])) (λ shown. a_driving_gate And (shown ∷ end ∷ [])) (driving_free P Inv (hold ∷ []) f) (λ shown. driving_free P And (shown ∷ end ∷ []) f)

output_free : (P : Part → Type 0) (config : Config) (ports : EdtPorts) (gated : List NetId) (output : ℕ) → HoldsFree P → Holds P (an_output config ports gated output)
unfolding an_output
output_free P config ports gated output f =
    holds_bind P (a_sum (map (net_at gated) (group_of config output))) (λ sum. a_gate Buf (sum ∷ []) (net_at ports.outputs output)) (sum_free P (map (net_at gated) (group_of config output)) f) (λ sum. gate_free P Buf (sum ∷ []) (net_at ports.outputs output) f)

abbrev gates_of : Config → (ends : List NetId) → (masks : List MaskNets) → Recipe (List NetId)
gates_of config ends masks = collect (λ chain. a_gated (masks_at masks chain).hold (net_at ends chain)) (range_with_len 0 config.chains)

pub compactor_free : (P : Part → Type 0) (config : Config) (ports : EdtPorts) (run : NetId) (ends : List NetId) → HoldsFree P → Holds P (a_compactor config ports run ends)
unfolding a_compactor
compactor_free P config ports run ends f =
    holds_bind P (segments config ports run 0 config.compactor.mask_inputs) (λ masks. gates_of config ends masks >>= (λ gated. each (an_output config ports gated) (range_with_len 0 (length config.compactor.groups))))
    (segments_free P config ports run 0 config.compactor.mask_inputs f)
    (λ masks. holds_bind P (gates_of config ends masks) (λ gated. each (an_output config ports gated) (range_with_len 0 (length config.compactor.groups)))
    (holds_collect P (λ chain. a_gated (masks_at masks chain).hold (net_at ends chain)) (range_with_len 0 config.chains) (λ k chain there. gated_free P (masks_at masks chain).hold (net_at ends chain) f))
    (λ gated. holds_each P (an_output config ports gated) (range_with_len 0 (length config.compactor.groups)) (λ k output there. output_free P config ports gated output f)))
