-- The parts of the ring and the phase shifter are good.
use Rattle.std.proofs.Common.{ℕ, suc, ◌+◌, ◌≡◌, ◌≤◌, List, [], ◌∷◌, ◌++◌, length, map, refl, sym, ap, arith, ◌∙◌}
use Rattle.std.specs.List.{AllByRecursion, range_with_len}
use Rattle.std.proofs.lemmas.List.FromFn.{length-range_with_len}
use Rattle.dft_cells.specs.declared.kind.Gate.TheVariants.{Inv, And}
use Rattle.dft_netlist.specs.declared.ids.NetId.{NetId}
use Rattle.dft_netlist.specs.Netlist.{Netlist}
use Rattle.dft_netlist.specs.Orders.{numbers_of}
use Rattle.dft_config.specs.Config.{Config}
use Rattle.dft_config.specs.declared.config.RingConfig.{RingConfig}
use Rattle.dft_config.specs.Ring.{phase_of}
use Rattle.dft_parts.specs.declared.edt_ports.EdtPorts.{EdtPorts}
use Rattle.dft_parts.specs.Parts.{Part}
use Rattle.dft_parts.specs.Recipes.{Start, nets_in, behind, each, collect, net_at, nets_made, a_net, a_flop}
use Rattle.dft_parts.specs.Single.{times_in}
use Rattle.dft_parts.specs.Sums.{a_driving_gate, a_sum}
use Rattle.dft_edt.specs.Feeds.{Feed, Stage, Channel, at_feed, feeds}
use Rattle.dft_edt.specs.declared.ring.Ring.{Ring}
use Rattle.dft_edt.specs.RingRecipe.{stage_terms, a_stage, a_phase, a_ring}
use Rattle.dft_edt.proofs.PartLists.{nets_in-append}
use Rattle.dft_insert.proofs.Goods.{Setting, IsBelow, AreBelow, none_below, below_more, below_at, none, one, IsGood, good_nil, good_both, good_as, good_flop, good_after}
use Rattle.dft_insert.proofs.GoodSums.{front_less, gate_gives, sum_gives, all_of, each_good, collect_good, nets_owe, places_count}

-- ---- nets by their places

-- all numbers of a list, where nothing is asked of them
pub any : {X : Type 0} (xs : List X) → AllByRecursion (λ (_ : X). Unit {0}) xs
any [] = tt
any (x ∷ xs) = (tt, any xs)

feeds_below : (rank : ℕ → ℕ) (next : ℕ) (stages channels : List NetId) (fs : List Feed) → IsBelow rank next (record { 0 = 0 }) → AreBelow rank next stages → AreBelow rank next channels → AreBelow rank next (map (at_feed (net_at stages) (net_at channels)) fs)
feeds_below rank next stages channels [] zeroth h k = tt
feeds_below rank next stages channels (Stage i ∷ fs) zeroth h k = (below_at rank next stages i zeroth h, feeds_below rank next stages channels fs zeroth h k)
feeds_below rank next stages channels (Channel i ∷ fs) zeroth h k = (below_at rank next channels i zeroth k, feeds_below rank next stages channels fs zeroth h k)

pub places_below : (rank : ℕ → ℕ) (next : ℕ) (nets : List NetId) (places : List ℕ) → IsBelow rank next (record { 0 = 0 }) → AreBelow rank next nets → AreBelow rank next (map (net_at nets) places)
places_below rank next nets [] zeroth h = tt
places_below rank next nets (place ∷ places) zeroth h = (below_at rank next nets place zeroth h, places_below rank next nets places zeroth h)

-- ---- a stage

stage_good : (n : Netlist) (rank : ℕ → ℕ) (base : ℕ) (at : Start) (ring : RingConfig) (ports : EdtPorts) (run : NetId) (stages : List NetId) (stage : ℕ) → Setting n.library rank base → base ≤ at.next → at.library ≡ n.library →
    AreBelow rank at.next ports.channels → IsBelow rank at.next run → AreBelow rank at.next stages → IsGood n rank at (a_stage ring ports run stages stage at).parts none (one (net_at stages stage).0)
unfolding a_stage
stage_good n rank base at ring ports run stages stage s from same channels running below =
    let terms = stage_terms ring ports.channels stages stage in
    let sum = a_sum terms at in
    let a = behind at sum.parts in
    let kept = a_driving_gate And (sum.value ∷ run ∷ []) a in
    let b = behind a kept.parts in
    let flop = (a_flop ports.edt_clock kept.value (net_at stages stage) b).parts in
    let first = sum_gives n rank base at terms s from (feeds_below rank at.next stages ports.channels (feeds ring stage) (none_below n.library rank base at.next s from) below channels) in
    let second = gate_gives n rank base a And (sum.value ∷ run ∷ []) s (omega (arith, from)) (first.below.0, below_more rank at.next a.next (run ∷ []) (omega arith) (running, tt)) in
    good_after n rank at sum.parts (kept.parts ++ flop) none (one (net_at stages stage).0) first.good
    (good_after n rank a kept.parts flop none (one (net_at stages stage).0) second.good (good_flop n rank b ports.edt_clock kept.value (net_at stages stage) s.well same))

-- ---- the ring

-- the ring's parts are good, and the nets that it gives stand below what comes behind
pub record RingGives (n : Netlist) (rank : ℕ → ℕ) (at : Start) (parts : List Part) (ring : Ring) : Type 0 where
  pub good : IsGood n rank at parts none none
  pub run : IsBelow rank (at.next + nets_in parts) ring.run
  pub phases : AreBelow rank (at.next + nets_in parts) ring.phases

made_count : {X : Type 0} (at : Start) (xs : List X) → length (collect (λ _. a_net) xs at).value ≡ length xs
unfolding collect
made_count at [] = refl
made_count at (x ∷ xs) = ap suc (made_count (behind at (a_net at).parts) xs)

pub ring_gives : (n : Netlist) (rank : ℕ → ℕ) (base : ℕ) (at : Start) (config : Config) (ports : EdtPorts) → Setting n.library rank base → base ≤ at.next → at.library ≡ n.library → AreBelow rank at.next ports.channels → IsBelow rank at.next ports.edt_update →
    RingGives n rank at (a_ring config ports at).parts (a_ring config ports at).value
unfolding a_ring
ring_gives n rank base at config ports s from same channels update =
    let count = config.ring.stages in
    let run = a_driving_gate Inv (ports.edt_update ∷ []) at in
    let a = behind at run.parts in
    let stages = nets_made count a in
    let b = behind a stages.parts in
    let body = (each (a_stage config.ring ports run.value stages.value) (range_with_len 0 count) b).parts in
    let c = behind b body in
    let phases = collect (a_phase config.ring stages.value) (range_with_len 0 config.chains) c in
    let made = stages.value in
    let running = gate_gives n rank base at Inv (ports.edt_update ∷ []) s from (update, tt) in
    let owed = nets_owe n rank base a (range_with_len 0 count) s (omega (arith, from)) in
    let stage_nets : List ℕ = numbers_of made in
    let each_stage : IsGood n rank b body none (all_of (λ j. one (net_at made j).0) (range_with_len 0 count)) =
    each_good (a_stage config.ring ports run.value made) n rank (b.next + nets_in body) (λ (_ : ℕ). Unit {0}) (λ j. one (net_at made j).0) b (range_with_len 0 count) (any (range_with_len 0 count)) (omega arith)
    (λ j d _ lib past fits. stage_good n rank base d config.ring ports run.value made j s (omega (arith, from, past)) (lib ∙ same) (below_more rank at.next d.next ports.channels (omega (arith, past)) channels)
    (below_more rank a.next d.next (run.value ∷ []) (omega (arith, past)) running.below).0 (below_more rank b.next d.next made (omega (arith, past)) owed.below)) in
    let lengths : count ≡ length made = sym (made_count a (range_with_len 0 count) ∙ length-range_with_len 0 count) in
    let counted : (k : ℕ) → all_of (λ j. one (net_at made j).0) (range_with_len 0 count) k ≡ times_in stage_nets k =
    λ k. ap (λ (m : ℕ). all_of (λ j. one (net_at made j).0) (range_with_len 0 m) k) lengths ∙ places_count (net_at made) 0 made k (λ j less. ap (net_at made) (let e : 0 + j ≡ j = omega arith in e)) in
    let all_phases = collect_good (a_phase config.ring made) n rank (λ (_ : ℕ). Unit {0}) (IsBelow rank) c (range_with_len 0 config.chains) (λ x y v le h k past. h k (omega (arith, le, past))) (any (range_with_len 0 config.chains))
    (λ j d _ lib past. (
    let h = sum_gives n rank base d (map (net_at made) (phase_of config.ring j)) s (omega (arith, from, past))
    (places_below rank d.next made (phase_of config.ring j) (none_below n.library rank base d.next s (omega (arith, from, past))) (below_more rank b.next d.next made (omega (arith, past)) owed.below)) in
    (h.good, h.below.0)
    )) in
    let last = phases.parts ++ [] in
    let whole = run.parts ++ (stages.parts ++ (body ++ last)) in
    let ends : c.next + nets_in phases.parts ≤ at.next + nets_in whole =
    omega (arith, nets_in-append run.parts (stages.parts ++ (body ++ last)), nets_in-append stages.parts (body ++ last), nets_in-append body last, nets_in-append phases.parts []) in
    let stage_counts : ℕ → ℕ = all_of (λ j. one (net_at made j).0) (range_with_len 0 count) in
    record {
      good = good_as n rank at whole (λ k. times_in stage_nets k + (none k + none k)) none (λ k. none k + (stage_counts k + none k)) none (λ k. (let e = counted k in omega (arith, e)))
          (good_after n rank at run.parts (stages.parts ++ (body ++ last)) (λ k. times_in stage_nets k + (none k + none k)) (λ k. none k + (stage_counts k + none k)) running.good
          (good_both n rank a stages.parts (body ++ last) (λ k. times_in stage_nets k) (λ k. none k + none k) none (λ k. stage_counts k + none k) owed.good
          (good_both n rank b body last none none stage_counts none each_stage (good_both n rank c phases.parts [] none none none none all_phases.good (good_nil n rank (behind c phases.parts))))));
      run = (below_more rank a.next (at.next + nets_in whole) (run.value ∷ []) (front_less at.next run.parts (stages.parts ++ (body ++ last))) running.below).0;
      phases = below_more rank (c.next + nets_in phases.parts) (at.next + nets_in whole) phases.value ends all_phases.all;
    }
