-- The parts of masks and compactor are their hardware.
use Rattle.std.proofs.Common.{ℕ, zero, suc, ◌+◌, ◌*◌, ◌-◌, ◌<◌, ◌≡◌, List, [], ◌∷◌, ◌++◌, length, map, refl, sym, subst, ap, arith, ◌∙◌}
use Rattle.std.specs.List.{range_with_len}
use Rattle.std.proofs.lemmas.List.{length-map}
use Rattle.dft_cells.specs.declared.kind.Gate.TheVariants.{Buf, Inv, And}
use Rattle.dft_cells.specs.WellFormed.{IsWellFormed}
use Rattle.dft_netlist.specs.declared.ids.NetId.{NetId}
use Rattle.dft_netlist.specs.Drivers.{Net}
use Rattle.dft_behavior.specs.Logic.{Logic, Ports, Gate, logic_of}
use Rattle.dft_netlist.specs.Netlist.{Netlist}
use Rattle.dft_netlist.specs.NetDrivers.{IsSingle}
use Rattle.dft_config.specs.Config.{Config}
use Rattle.dft_config.specs.Range.{IsInRange}
use Rattle.dft_parts.specs.declared.edt_ports.EdtPorts.{EdtPorts}
use Rattle.dft_parts.specs.Growth.{HasParts, instances_in}
use Rattle.dft_parts.specs.Recipes.{Start, Recipe, behind, each, collect, net_at}
use Rattle.dft_parts.specs.Standing.{IsClockNet, IsFlop}
use Rattle.dft_parts.specs.Sums.{a_driving_gate, a_sum}
use Rattle.dft_parts.specs.SumTrees.{IsSum}
use Rattle.dft_parts.proofs.Standing.{gate_stands}
use Rattle.dft_parts.proofs.Trees.{front, back, sum_stands}
use Rattle.dft_edt.specs.Hardware.{EdtNets, HasHold, HasOutput, before_in, group_of}
use Rattle.dft_config.specs.Segments.{chain_in, segment_start, segment_length}
use Rattle.dft_edt.proofs.Steps.{Standing, standing}
use Rattle.dft_edt.proofs.PartLists.{each_there, collect_there, range_at, both_at}
use Rattle.dft_edt.proofs.RingFacts.{nets_at}
use Rattle.dft_edt.specs.declared.mask_nets.MaskNets.{MaskNets}
use Rattle.dft_edt.specs.CompactorRecipe.{segments, masks_at, a_gated, an_output, a_compactor}
use Rattle.dft_edt.specs.CompactorStands.{with_compactor, mask_nets, CompactorStands}
use Rattle.dft_edt.proofs.MaskFacts.{MaskAt, before_place, cut_stands}

-- ---- masks by segment and place

masks_here : (n : Netlist) (ports : Ports) (config : Config) (edt : EdtPorts) (run : NetId) (i : ℕ) (at : Start) → (single : IsSingle n) → (well : IsWellFormed n.library) → (library : at.library ≡ n.library) → (clock : IsClockNet n ports edt.edt_clock.0) →
    HasParts n i (segments config edt run 0 config.compactor.mask_inputs at).parts → (m k : ℕ) → (m_less : m < config.compactor.mask_inputs) → (k_less : k < segment_length config m) →
    MaskAt (logic_of n ports) edt run (i + 5 * chain_in config m k) (before_place (mask_nets config edt run at) (segment_start config m) (net_at edt.masks m) k) (masks_at (mask_nets config edt run at) (chain_in config m k))
masks_here n ports config edt run i at single well library clock h m k m_less k_less =
    let l = logic_of n ports in
    let masks = mask_nets config edt run at in
    let same : 0 + m ≡ m = omega arith in
    let start = segment_start config m in
    let starts : start + 0 ≡ segment_start config (0 + m) = (let e : start + 0 ≡ start = omega arith in e) ∙ sym (ap (segment_start config) same) in
    subst (λ (s : ℕ). MaskAt l edt run (i + 5 * (start + k)) (before_place masks start (net_at edt.masks s) k) (masks_at masks (start + k))) same
    (cut_stands n ports config edt run 0 config.compactor.mask_inputs i at single well library clock h m k start m_less (subst (λ (s : ℕ). k < segment_length config s) (sym same) k_less) starts)

before_same : (config : Config) (edt : EdtPorts) (masks : List MaskNets) (m k : ℕ) →
    (before_place masks (segment_start config m) (net_at edt.masks m) k).0 ≡ before_in config (λ segment. (net_at edt.masks segment).0) (λ chain. (masks_at masks chain).mask.0) m k
before_same config edt masks m zero = refl
before_same config edt masks m (suc k) = refl

-- the hold flip-flop of any chain
hold_here : (n : Netlist) (ports : Ports) (config : Config) (edt : EdtPorts) (run : NetId) (ends : List NetId) (i : ℕ) (at : Start) (hw : EdtNets) → (single : IsSingle n) → (well : IsWellFormed n.library) → (library : at.library ≡ n.library) → (clock : IsClockNet n ports edt.edt_clock.0) →
    HasParts n i (segments config edt run 0 config.compactor.mask_inputs at).parts → (chain : ℕ) → Standing config chain → HasHold (logic_of n ports) (with_compactor config edt run ends at i hw) chain
hold_here n ports config edt run ends i at hw single well library clock h chain s =
    let l = logic_of n ports in
    let own = masks_here n ports config edt run i at single well library clock h s.segment s.place s.in_segments s.in_segment in
    let here = subst (λ (c : ℕ). MaskAt l edt run (i + 5 * c) (before_place (mask_nets config edt run at) (segment_start config s.segment) (net_at edt.masks s.segment) s.place) (masks_at (mask_nets config edt run at) c)) s.there own in
    let number : i + 5 * chain + 4 ≡ i + (5 * chain + 4) = omega arith in
    record {
      taken = here.takes.taken;
      kept = here.takes.kept;
      next = here.next;
      take = here.takes.take;
      keep = here.takes.keep;
      either = here.takes.either;
      flop = subst (λ (k : ℕ). IsFlop l edt.edt_clock.0 k (masks_at (mask_nets config edt run at) chain).hold.0 here.next) number here.hold;
    }

-- ---- gated ends

-- what the compactor takes of a chain
pub record GatedAt (l : Logic) (masks : List MaskNets) (ends : List NetId) (chain : ℕ) (net : NetId) : Type 0 where
  pub shown : ℕ
  pub show : l.net shown ≡ Gate Inv (Net (masks_at masks chain).hold.0 ∷ [])
  pub gate : l.net net.0 ≡ Gate And (Net shown ∷ Net (net_at ends chain).0 ∷ [])

gated_stands : (n : Netlist) (ports : Ports) (masks : List MaskNets) (ends : List NetId) (chain i : ℕ) (at : Start) → IsSingle n → HasParts n i (a_gated (masks_at masks chain).hold (net_at ends chain) at).parts →
    GatedAt (logic_of n ports) masks ends chain (a_gated (masks_at masks chain).hold (net_at ends chain) at).value
unfolding a_gated a_driving_gate
gated_stands n ports masks ends chain i at single h =
    let hold = (masks_at masks chain).hold in
    let end = net_at ends chain in
    let shown = a_driving_gate Inv (hold ∷ []) at in
    let gate = a_driving_gate And (shown.value ∷ end ∷ []) (behind at shown.parts) in
    record {
      shown = shown.value.0;
      show = gate_stands n ports i Inv (hold ∷ []) shown.value single refl h.0;
      gate = gate_stands n ports (suc i) And (shown.value ∷ end ∷ []) gate.value single refl h.1.0;
    }

-- ---- outputs

group_some : (config : Config) (nets : List NetId) (j : ℕ) → IsInRange config → j < length config.compactor.groups → 0 < length (map (net_at nets) (group_of config j))
group_some config nets j range less =
    let some = (range.compactor.groups j [] less).some in
    omega (arith, some, length-map (group_of config j) (net_at nets))

output_stands : (n : Netlist) (ports : Ports) (config : Config) (edt : EdtPorts) (gated : List NetId) (j i : ℕ) (at : Start) (hw : EdtNets) → IsSingle n → IsInRange config → j < length config.compactor.groups → HasParts n i (an_output config edt gated j at).parts →
    HasOutput (logic_of n ports) config (record hw { gated = λ chain. (net_at gated chain).0; output = λ output. (net_at edt.outputs output).0 }) j
unfolding an_output
output_stands n ports config edt gated j i at hw single range less h =
    let l = logic_of n ports in
    let terms = map (net_at gated) (group_of config j) in
    let sum = a_sum terms at in
    let own = back n i sum.parts _ h in
    record {
      sum = sum.value.0;
      sums = subst (IsSum l sum.value.0) (nets_at gated (group_of config j)) (sum_stands n ports at i terms single (group_some config gated j range less) (front n i sum.parts _ h));
      buffer = gate_stands n ports (i + instances_in sum.parts) Buf (sum.value ∷ []) (net_at edt.outputs j) single refl own.0;
    }

-- ---- all of it

pub compactor_stands : CompactorStands
unfolding a_compactor
compactor_stands n ports config edt run ends at number hw single well library clock range h =
    let l = logic_of n ports in
    let masks = segments config edt run 0 config.compactor.mask_inputs at in
    let t1 = behind at masks.parts in
    let f : ℕ → Recipe NetId = λ chain. a_gated (masks_at masks.value chain).hold (net_at ends chain) in
    let gated = collect f (range_with_len 0 config.chains) t1 in
    let t2 = behind t1 gated.parts in
    let g = an_output config edt gated.value in
    let groups = length config.compactor.groups in
    let outputs = (each g (range_with_len 0 groups) t2).parts in
    let masked = front n number masks.parts (gated.parts ++ outputs) h in
    let j1 = number + instances_in masks.parts in
    let b1 = back n number masks.parts (gated.parts ++ outputs) h in
    let ended = front n j1 gated.parts outputs b1 in
    let j2 = j1 + instances_in gated.parts in
    let shown = back n j1 gated.parts outputs b1 in
    record {
      masks = λ m k m_less k_less.
          (let own = masks_here n ports config edt run number at single well library clock masked m k m_less k_less in
          subst (λ (b : ℕ). IsFlop l edt.edt_clock.0 (number + 5 * chain_in config m k) (masks_at masks.value (chain_in config m k)).mask.0 b) (before_same config edt masks.value m k) own.flop);
      holds = λ chain less. hold_here n ports config edt run ends number at hw single well library clock masked chain (standing config chain range less);
      gated_ends = λ chain less.
          (let own : GatedAt l masks.value ends chain (net_at gated.value chain) =
          both_at (GatedAt l masks.value ends) config.chains chain gated.value less
          (collect_there f n (GatedAt l masks.value ends) j1 t1 (range_with_len 0 config.chains) (λ x k a same there. gated_stands n ports masks.value ends x k a single there) ended) in
          record { shown = own.shown; show = own.show; gate = own.gate });
      outputs = λ j less.
          (let before = (each g (range_with_len 0 j) t2).parts in
          output_stands n ports config edt gated.value j (j2 + instances_in before) (behind t2 before) (with_compactor config edt run ends at number hw) single range less
          (each_there g n j2 t2 (range_with_len 0 j) (range_with_len (j + 1) (groups - (j + 1))) j (subst (λ (ks : List ℕ). HasParts n j2 (each g ks t2).parts) (range_at groups j less) shown)));
    }
