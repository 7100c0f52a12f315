-- The parts of the ring are its hardware.
use Rattle.std.proofs.Common.{ℕ, zero, suc, ◌+◌, ◌-◌, ◌<◌, ◌≡◌, List, [], ◌∷◌, ◌++◌, length, map, refl, subst, ap, arith, ◌∙◌}
use Rattle.std.specs.List.{range_with_len}
use Rattle.std.proofs.lemmas.List.{length-map}
use Rattle.dft_base.proofs.ListLemmas.{range_last}
use Rattle.dft_cells.specs.declared.kind.Gate.TheVariants.{Inv, And}
use Rattle.dft_cells.specs.declared.cell.Cell.{Cell}
use Rattle.dft_cells.specs.WellFormed.{IsWellFormed}
use Rattle.dft_netlist.specs.declared.ids.NetId.{NetId}
use Rattle.dft_netlist.specs.declared.instance.CellRef.TheVariants.{Library}
use Rattle.dft_behavior.specs.Logic.{Ports, logic_of}
use Rattle.dft_netlist.specs.Netlist.{Netlist}
use Rattle.dft_netlist.specs.NetDrivers.{IsSingle}
use Rattle.dft_netlist.specs.Orders.{numbers_of}
use Rattle.dft_config.specs.Config.{Config}
use Rattle.dft_config.specs.declared.config.RingConfig.{RingConfig}
use Rattle.dft_config.specs.Range.{IsInRange}
use Rattle.dft_config.specs.Ring.{phase_of}
use Rattle.dft_parts.specs.declared.edt_ports.EdtPorts.{EdtPorts}
use Rattle.dft_parts.specs.Cells.{is_dff, first_cell, pins_between}
use Rattle.dft_parts.specs.Growth.{Stands, HasParts, instances_in}
use Rattle.dft_parts.specs.Parts.{ANet}
use Rattle.dft_parts.specs.Recipes.{Start, behind, each, collect, net_at, nets_made, a_net, a_flop}
use Rattle.dft_parts.specs.Standing.{IsClockNet, IsFlop}
use Rattle.dft_parts.specs.Sums.{a_driving_gate, a_sum}
use Rattle.dft_parts.specs.SumTrees.{IsSum}
use Rattle.dft_parts.proofs.Standing.{gate_stands}
use Rattle.dft_parts.proofs.Stores.{flop_stands}
use Rattle.dft_parts.proofs.Trees.{front, back, sum_stands}
use Rattle.dft_edt.specs.Feeds.{Feed, Stage, Channel, at_feed, feeds}
use Rattle.dft_edt.specs.Hardware.{EdtNets, HasStage}
use Rattle.dft_edt.specs.RingRecipe.{stage_terms, a_stage, a_phase, a_ring}
use Rattle.dft_edt.specs.RingStands.{run_parts, stage_flop, RingStands}
use Rattle.dft_edt.proofs.PartLists.{instances_in-append, each_there, each_more, collect_there, range_at, both_at}

-- ---- nets by their numbers

feeds_at : (stages channels : List NetId) (fs : List Feed) → numbers_of (map (at_feed (net_at stages) (net_at channels)) fs) ≡ map (at_feed (λ k. (net_at stages k).0) (λ j. (net_at channels j).0)) fs
feeds_at stages channels [] = refl
feeds_at stages channels (Stage i ∷ fs) = ap (λ (r : List ℕ). (net_at stages i).0 ∷ r) (feeds_at stages channels fs)
feeds_at stages channels (Channel j ∷ fs) = ap (λ (r : List ℕ). (net_at channels j).0 ∷ r) (feeds_at stages channels fs)

pub nets_at : (nets : List NetId) (ks : List ℕ) → numbers_of (map (net_at nets) ks) ≡ map (λ k. (net_at nets k).0) ks
nets_at nets [] = refl
nets_at nets (k ∷ ks) = ap (λ (r : List ℕ). (net_at nets k).0 ∷ r) (nets_at nets ks)

-- ---- a flip-flop that is made stands over the netlist's own cells

pub made_flop : (n : Netlist) (ports : Ports) (i : ℕ) (library : List Cell) (clock input output : NetId) → IsSingle n → IsWellFormed n.library → library ≡ n.library → IsClockNet n ports clock.0 →
    Stands n i (Library (first_cell is_dff library)) (pins_between library (first_cell is_dff library) clock input output) → IsFlop (logic_of n ports) clock.0 i output.0 input.0
made_flop n ports i library clock input output single well same is h =
    flop_stands n ports i clock input output single well is (subst (λ (cells : List Cell). Stands n i (Library (first_cell is_dff cells)) (pins_between cells (first_cell is_dff cells) clock input output)) same h)

-- ---- a stage

-- the hardware with a ring at these nets, whose flip-flops have these numbers
abbrev ring_at : EdtPorts → (run : NetId) → (stages : List NetId) → (flops : ℕ → ℕ) → EdtNets → EdtNets
ring_at edt run stages flops hw = record hw {
  update = edt.edt_update.0;
  clock = edt.edt_clock.0;
  channel = λ channel. (net_at edt.channels channel).0;
  run = run.0;
  stage = flops;
  stage_net = λ stage. (net_at stages stage).0;
}

stage_stands : (n : Netlist) (ports : Ports) (ring : RingConfig) (edt : EdtPorts) (run : NetId) (stages : List NetId) (stage i : ℕ) (at : Start) (hw : EdtNets) (flops : ℕ → ℕ) → (single : IsSingle n) → (well : IsWellFormed n.library) → (library : at.library ≡ n.library) →
    (clock : IsClockNet n ports edt.edt_clock.0) → (number : suc (flops stage) ≡ i + instances_in (a_stage ring edt run stages stage at).parts) → HasParts n i (a_stage ring edt run stages stage at).parts → HasStage (logic_of n ports) ring (ring_at edt run stages flops hw) stage
unfolding a_stage a_driving_gate
stage_stands n ports ring edt run stages stage i at hw flops single well library clock number h =
    let l = logic_of n ports in
    let terms = stage_terms ring edt.channels stages stage in
    let sum = a_sum terms at in
    let first = behind at sum.parts in
    let gate = a_driving_gate And (sum.value ∷ run ∷ []) first in
    let kept = gate.value in
    let flop = a_flop edt.edt_clock kept (net_at stages stage) (behind first gate.parts) in
    let own = back n i sum.parts (gate.parts ++ flop.parts) h in
    let size : instances_in (sum.parts ++ (gate.parts ++ flop.parts)) ≡ instances_in sum.parts + 2 = instances_in-append sum.parts (gate.parts ++ flop.parts) in
    let is : suc (i + instances_in sum.parts) ≡ flops stage = omega (arith, number, size) in
    record {
      sum = sum.value.0;
      kept = kept.0;
      sums = subst (IsSum l sum.value.0) (feeds_at stages edt.channels (feeds ring stage)) (sum_stands n ports at i terms single (omega arith) (front n i sum.parts (gate.parts ++ flop.parts) h));
      gate = gate_stands n ports (i + instances_in sum.parts) And (sum.value ∷ run ∷ []) kept single refl own.0;
      flop = subst (λ (k : ℕ). IsFlop l edt.edt_clock.0 k (net_at stages stage).0 kept.0) is
          (made_flop n ports (suc (i + instances_in sum.parts)) at.library edt.edt_clock kept (net_at stages stage) single well library clock own.1.0);
    }

-- ---- the ring

pub no_instance : (k from : ℕ) (at : Start) → instances_in (collect (λ _. a_net) (range_with_len from k) at).parts ≡ 0
unfolding collect
no_instance zero from at = refl
no_instance (suc k) from at =
    let later = (collect (λ _. a_net) (range_with_len (from + 1) k) (behind at (ANet ∷ []))).parts in
    omega (arith, instances_in-append later [], no_instance k (from + 1) (behind at (ANet ∷ [])))

-- a chain's phase set has a stage at least
phase_some : (config : Config) (nets : List NetId) (chain : ℕ) → IsInRange config → chain < config.chains → 0 < length (map (net_at nets) (phase_of config.ring chain))
phase_some config nets chain range less =
    let phases = range.ring.phases in
    let some = (range.ring.phase chain [] (omega (arith, less, phases))).some in
    omega (arith, some, length-map (phase_of config.ring chain) (net_at nets))

pub ring_stands : RingStands
unfolding a_ring a_driving_gate stage_flop
ring_stands n ports config edt at number hw single well library clock range h =
    let l = logic_of n ports in
    let ring = config.ring in
    let run = (a_driving_gate Inv (edt.edt_update ∷ []) at).value in
    let rp = run_parts edt at in
    let t1 = behind at rp in
    let made = nets_made ring.stages t1 in
    let stages = made.value in
    let t2 = behind t1 made.parts in
    let f = a_stage ring edt run stages in
    let each_all = (each f (range_with_len 0 ring.stages) t2).parts in
    let t3 = behind t2 each_all in
    let phases = collect (a_phase ring stages) (range_with_len 0 config.chains) t3 in
    let b1 = back n number rp (made.parts ++ (each_all ++ (phases.parts ++ []))) h in
    let j1 = number + instances_in rp in
    let b2 = back n j1 made.parts (each_all ++ (phases.parts ++ [])) b1 in
    let j2 = j1 + instances_in made.parts in
    let staged = front n j2 each_all (phases.parts ++ []) b2 in
    let j3 = j2 + instances_in each_all in
    let phased = front n j3 phases.parts [] (back n j2 each_all (phases.parts ++ []) b2) in
    let none = no_instance ring.stages 0 t1 in
    let flops = stage_flop config edt at number in
    let P : ℕ → NetId → Type 0 = λ chain net. chain < config.chains → IsSum l net.0 (map (λ k. (net_at stages k).0) (phase_of ring chain)) in
    record {
      run = gate_stands n ports number Inv (edt.edt_update ∷ []) run single refl h.0;
      stages = λ stage less.
          (let before = (each f (range_with_len 0 stage) t2).parts in
          let there = each_there f n j2 t2 (range_with_len 0 stage) (range_with_len (stage + 1) (ring.stages - (stage + 1))) stage (subst (λ (ks : List ℕ). HasParts n j2 (each f ks t2).parts) (range_at ring.stages stage less) staged) in
          let own = (f stage (behind t2 before)).parts in
          let last : instances_in (each f (range_with_len 0 (stage + 1)) t2).parts ≡ instances_in before + instances_in own =
          ap (λ (ks : List ℕ). instances_in (each f ks t2).parts) (range_last stage) ∙ each_more f (range_with_len 0 stage) stage t2 in
          let is : suc (flops stage) ≡ j2 + instances_in before + instances_in own = omega (arith, last, none) in
          stage_stands n ports ring edt run stages stage (j2 + instances_in before) (behind t2 before) hw flops single well library clock is there);
      phases = λ chain less.
          both_at P config.chains chain phases.value less
          (collect_there (a_phase ring stages) n P j3 t3 (range_with_len 0 config.chains)
          (λ x k a same there few. subst (IsSum l (a_phase ring stages x a).value.0) (nets_at stages (phase_of ring x)) (sum_stands n ports a k (map (net_at stages) (phase_of ring x)) single (phase_some config stages x range few) there)) phased)
          less;
    }
