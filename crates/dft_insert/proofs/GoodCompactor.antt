-- The parts of masks, hold bits and compactor are good.
use Rattle.std.proofs.Common.{ℕ, zero, suc, ◌+◌, ◌≡◌, ◌<◌, ◌≤◌, List, [], ◌∷◌, ◌++◌, length, map, subst, arith}
use Rattle.std.specs.List.{AllByRecursion, range_with_len}
use Rattle.dft_base.proofs.ListLemmas.{all_append}
use Rattle.dft_edt.proofs.PartLists.{nets_in-append}
use Rattle.dft_cells.specs.declared.kind.Gate.TheVariants.{Buf, Inv, And, Or}
use Rattle.dft_netlist.specs.declared.ids.NetId.{NetId}
use Rattle.dft_netlist.specs.Netlist.{Netlist}
use Rattle.dft_config.specs.Config.{Config}
use Rattle.dft_parts.specs.declared.edt_ports.EdtPorts.{EdtPorts}
use Rattle.dft_parts.specs.Parts.{Part}
use Rattle.dft_parts.specs.Recipes.{Start, nets_in, behind, each, collect, net_at, a_net, a_gate, a_flop}
use Rattle.dft_parts.specs.Sums.{a_driving_gate, a_sum}
use Rattle.dft_edt.specs.Hardware.{group_of}
use Rattle.dft_config.specs.Segments.{segment_length}
use Rattle.dft_edt.specs.declared.mask_nets.MaskNets.{MaskNets}
use Rattle.dft_edt.specs.CompactorRecipe.{a_next, a_mask, a_segment, segments, masks_at, a_gated, an_output, a_compactor}
use Rattle.dft_insert.proofs.Goods.{Setting, IsBelow, AreBelow, made_below, none_below, below_more, below_at, none, one, IsGood, good_nil, good_both, good_as, good_net, good_gate, good_flop, good_after, good_end}
use Rattle.dft_insert.proofs.GoodSums.{front_less, Gives, gives_last, gate_gives, sum_gives, all_of, each_good, Collected, all_more, collect_good}
use Rattle.dft_insert.proofs.GoodRing.{any, places_below}

-- ---- the next hold bit

next_gives : (n : Netlist) (rank : ℕ → ℕ) (base : ℕ) (at : Start) (ports : EdtPorts) (run : NetId) (nets : MaskNets) → Setting n.library rank base → base ≤ at.next → IsBelow rank at.next ports.edt_update → IsBelow rank at.next run →
    IsBelow rank at.next nets.mask → IsBelow rank at.next nets.hold → Gives n rank at (a_next ports run nets at).parts ((a_next ports run nets at).value ∷ [])
unfolding a_next
next_gives n rank base at ports run nets s from update running mask hold =
    let taken = a_driving_gate And (ports.edt_update ∷ nets.mask ∷ []) at in
    let a = behind at taken.parts in
    let kept = a_driving_gate And (run ∷ nets.hold ∷ []) a in
    let b = behind a kept.parts in
    let either = a_driving_gate Or (taken.value ∷ kept.value ∷ []) b in
    let first = gate_gives n rank base at And (ports.edt_update ∷ nets.mask ∷ []) s from (update, (mask, tt)) in
    let second = gate_gives n rank base a And (run ∷ nets.hold ∷ []) s (omega (arith, from)) (below_more rank at.next a.next (run ∷ nets.hold ∷ []) (omega arith) (running, (hold, tt))) in
    let third = gate_gives n rank base b Or (taken.value ∷ kept.value ∷ []) s (omega (arith, from)) ((below_more rank a.next b.next (taken.value ∷ []) (omega arith) first.below).0, second.below) in
    gives_last n rank at taken.parts (kept.parts ++ either.parts) (taken.value ∷ []) (either.value ∷ []) first (gives_last n rank a kept.parts either.parts (kept.value ∷ []) (either.value ∷ []) second third)

-- ---- masks and hold bits of chains

-- both nets stand below what comes behind
abbrev pub AreMasked : (rank : ℕ → ℕ) → (next : ℕ) → MaskNets → Type 0
AreMasked rank next nets = IsBelow rank next nets.mask × IsBelow rank next nets.hold

masked_more : (rank : ℕ → ℕ) (next later : ℕ) (nets : MaskNets) → next ≤ later → AreMasked rank next nets → AreMasked rank later nets
masked_more rank next later nets le h = (λ k past. h.0 k (omega (arith, le, past)), λ k past. h.1 k (omega (arith, le, past)))

-- the parts of one, and what it gives
record MaskGives (n : Netlist) (rank : ℕ → ℕ) (at : Start) (parts : List Part) (nets : MaskNets) : Type 0 where
  pub good : IsGood n rank at parts none none
  pub masked : AreMasked rank (at.next + nets_in parts) nets

mask_gives : (n : Netlist) (rank : ℕ → ℕ) (base : ℕ) (at : Start) (ports : EdtPorts) (run before : NetId) → Setting n.library rank base → base ≤ at.next → at.library ≡ n.library → IsBelow rank at.next ports.edt_update → IsBelow rank at.next run →
    MaskGives n rank at (a_mask ports run before at).parts (a_mask ports run before at).value
unfolding a_mask
mask_gives n rank base at ports run before s from same update running =
    let mask : NetId = record { 0 = at.next } in
    let net = (a_net at).parts in
    let a = behind at net in
    let flop = (a_flop ports.edt_clock before mask a).parts in
    let b = behind a flop in
    let hold : NetId = record { 0 = b.next } in
    let other = (a_net b).parts in
    let c = behind b other in
    let nets : MaskNets = record { mask = mask; hold = hold } in
    let next = a_next ports run nets c in
    let d = behind c next.parts in
    let last = (a_flop ports.edt_clock next.value hold d).parts in
    let after = last ++ [] in
    let whole = net ++ (flop ++ (other ++ (next.parts ++ after))) in
    let size = nets_in-append next.parts after in
    let past : at.next + 2 ≤ at.next + nets_in whole = omega (arith, size) in
    let h = next_gives n rank base c ports run nets s (omega (arith, from)) (below_more rank at.next c.next (ports.edt_update ∷ []) (omega arith) (update, tt)).0 (below_more rank at.next c.next (run ∷ []) (omega arith) (running, tt)).0
    (made_below n.library rank base at.next c.next s from (omega arith)) (made_below n.library rank base b.next c.next s (omega (arith, from)) (omega arith)) in
    record {
      good = good_as n rank at whole (λ k. one at.next k + (none k + (one b.next k + none k))) none (λ k. none k + (one at.next k + (none k + one b.next k))) none (λ k. omega arith)
          (good_both n rank at net (flop ++ (other ++ (next.parts ++ after))) (one at.next) (λ k. none k + (one b.next k + none k)) none (λ k. one at.next k + (none k + one b.next k)) (good_net n rank at)
          (good_both n rank a flop (other ++ (next.parts ++ after)) none (λ k. one b.next k + none k) (one at.next) (λ k. none k + one b.next k) (good_flop n rank a ports.edt_clock before mask s.well same)
          (good_both n rank b other (next.parts ++ after) (one b.next) none none (one b.next) (good_net n rank b)
          (good_after n rank c next.parts after none (one b.next) h.good (good_end n rank d last none (one b.next) (good_flop n rank d ports.edt_clock next.value hold s.well same))))));
      masked = (made_below n.library rank base at.next (at.next + nets_in whole) s from (omega (arith, past)), made_below n.library rank base b.next (at.next + nets_in whole) s (omega (arith, from)) (omega (arith, past)));
    }

-- those of a list of chains
abbrev pub MasksGive : Netlist → (rank : ℕ → ℕ) → Start → List Part → List MaskNets → Type 0
MasksGive n rank at parts masks = Collected n rank at (AreMasked rank) parts masks

segment_gives : (n : Netlist) (rank : ℕ → ℕ) (base : ℕ) (at : Start) (ports : EdtPorts) (run before : NetId) (count : ℕ) → Setting n.library rank base → base ≤ at.next → at.library ≡ n.library → IsBelow rank at.next ports.edt_update → IsBelow rank at.next run →
    MasksGive n rank at (a_segment ports run before count at).parts (a_segment ports run before count at).value
unfolding a_segment
segment_gives n rank base at ports run before zero s from same update running = record { good = good_nil n rank at; all = tt }
segment_gives n rank base at ports run before (suc count) s from same update running =
    let first = a_mask ports run before at in
    let a = behind at first.parts in
    let more = a_segment ports run first.value.mask count a in
    let whole = first.parts ++ (more.parts ++ []) in
    let own = mask_gives n rank base at ports run before s from same update running in
    let rest = segment_gives n rank base a ports run first.value.mask count s (omega (arith, from)) same (below_more rank at.next a.next (ports.edt_update ∷ []) (omega arith) (update, tt)).0 (below_more rank at.next a.next (run ∷ []) (omega arith) (running, tt)).0 in
    record {
      good = good_after n rank at first.parts (more.parts ++ []) none none own.good (good_end n rank a more.parts none none rest.good);
      all = (
        masked_more rank (at.next + nets_in first.parts) (at.next + nets_in whole) first.value (front_less at.next first.parts (more.parts ++ [])) own.masked,
        all_more (AreMasked rank) (a.next + nets_in more.parts) (at.next + nets_in whole) more.value (masked_more rank) (omega (arith, nets_in-append first.parts (more.parts ++ []), nets_in-append more.parts [])) rest.all,
      );
    }

segments_give : (n : Netlist) (rank : ℕ → ℕ) (base : ℕ) (at : Start) (config : Config) (ports : EdtPorts) (run : NetId) (segment count : ℕ) → Setting n.library rank base → base ≤ at.next → at.library ≡ n.library → IsBelow rank at.next ports.edt_update →
    IsBelow rank at.next run → MasksGive n rank at (segments config ports run segment count at).parts (segments config ports run segment count at).value
unfolding segments
segments_give n rank base at config ports run segment zero s from same update running = record { good = good_nil n rank at; all = tt }
segments_give n rank base at config ports run segment (suc count) s from same update running =
    let first = a_segment ports run (net_at ports.masks segment) (segment_length config segment) at in
    let a = behind at first.parts in
    let more = segments config ports run (segment + 1) count a in
    let whole = first.parts ++ (more.parts ++ []) in
    let own = segment_gives n rank base at ports run (net_at ports.masks segment) (segment_length config segment) s from same update running in
    let rest = segments_give n rank base a config ports run (segment + 1) count s (omega (arith, from)) same (below_more rank at.next a.next (ports.edt_update ∷ []) (omega arith) (update, tt)).0 (below_more rank at.next a.next (run ∷ []) (omega arith) (running, tt)).0 in
    record {
      good = good_after n rank at first.parts (more.parts ++ []) none none own.good (good_end n rank a more.parts none none rest.good);
      all = all_append (AreMasked rank (at.next + nets_in whole)) first.value more.value
          (all_more (AreMasked rank) (at.next + nets_in first.parts) (at.next + nets_in whole) first.value (masked_more rank) (front_less at.next first.parts (more.parts ++ [])) own.all)
          (all_more (AreMasked rank) (a.next + nets_in more.parts) (at.next + nets_in whole) more.value (masked_more rank) (omega (arith, nets_in-append first.parts (more.parts ++ []), nets_in-append more.parts [])) rest.all);
    }

masked_at : (rank : ℕ → ℕ) (next : ℕ) (masks : List MaskNets) (chain : ℕ) → IsBelow rank next (record { 0 = 0 }) → AllByRecursion (AreMasked rank next) masks → IsBelow rank next (masks_at masks chain).hold
masked_at rank next [] chain zeroth h = zeroth
masked_at rank next (nets ∷ masks) zero zeroth h = h.0.1
masked_at rank next (nets ∷ masks) (suc chain) zeroth h = masked_at rank next masks chain zeroth h.1

-- ---- the compactor

gated_gives : (n : Netlist) (rank : ℕ → ℕ) (base : ℕ) (at : Start) (hold end : NetId) → Setting n.library rank base → base ≤ at.next → IsBelow rank at.next hold → IsBelow rank at.next end → Gives n rank at (a_gated hold end at).parts ((a_gated hold end at).value ∷ [])
unfolding a_gated
gated_gives n rank base at hold end s from held ended =
    let shown = a_driving_gate Inv (hold ∷ []) at in
    let a = behind at shown.parts in
    let gate = a_driving_gate And (shown.value ∷ end ∷ []) a in
    let first = gate_gives n rank base at Inv (hold ∷ []) s from (held, tt) in
    gives_last n rank at shown.parts gate.parts (shown.value ∷ []) (gate.value ∷ []) first
    (gate_gives n rank base a And (shown.value ∷ end ∷ []) s (omega (arith, from)) (first.below.0, below_more rank at.next a.next (end ∷ []) (omega arith) (ended, tt)))

output_good : (n : Netlist) (rank : ℕ → ℕ) (base limit : ℕ) (at : Start) (config : Config) (ports : EdtPorts) (gated : List NetId) (output : ℕ) → Setting n.library rank base → base ≤ at.next → AreBelow rank at.next gated →
    rank limit < rank (net_at ports.outputs output).0 → at.next + nets_in (an_output config ports gated output at).parts ≤ limit → IsGood n rank at (an_output config ports gated output at).parts none (one (net_at ports.outputs output).0)
unfolding an_output
output_good n rank base limit at config ports gated output s from below top fits =
    let sum = a_sum (map (net_at gated) (group_of config output)) at in
    let a = behind at sum.parts in
    let out = net_at ports.outputs output in
    let gate = (a_gate Buf (sum.value ∷ []) out a).parts in
    let first = sum_gives n rank base at (map (net_at gated) (group_of config output)) s from (places_below rank at.next gated (group_of config output) (none_below n.library rank base at.next s from) below) in
    let less = first.below.0 limit (omega (arith, fits, front_less at.next sum.parts gate)) in
    good_after n rank at sum.parts gate none (one out.0) first.good (good_gate n rank a Buf (sum.value ∷ []) out ((omega (arith, less, top)), tt))

range_below : (from count : ℕ) → AllByRecursion (λ (j : ℕ). j < from + count) (range_with_len from count)
range_below from zero = tt
range_below from (suc count) = (omega arith, subst (λ (b : ℕ). AllByRecursion (λ (j : ℕ). j < b) (range_with_len (from + 1) count)) (let e : from + 1 + count ≡ from + suc count = omega arith in e) (range_below (from + 1) count))

-- numbers below a count
pub numbers_below : (count : ℕ) → AllByRecursion (λ (j : ℕ). j < count) (range_with_len 0 count)
numbers_below count = subst (λ (b : ℕ). AllByRecursion (λ (j : ℕ). j < b) (range_with_len 0 count)) (let e : 0 + count ≡ count = omega arith in e) (range_below 0 count)

-- the outputs, as they are counted
abbrev pub outputs_of : Config → EdtPorts → ℕ → ℕ
outputs_of config ports = all_of (λ j. one (net_at ports.outputs j).0) (range_with_len 0 (length config.compactor.groups))

pub compactor_good : (n : Netlist) (rank : ℕ → ℕ) (base limit : ℕ) (at : Start) (config : Config) (ports : EdtPorts) (run : NetId) (ends : List NetId) → Setting n.library rank base → (from : base ≤ at.next) → (same : at.library ≡ n.library) → (update : IsBelow rank at.next ports.edt_update) →
    (running : IsBelow rank at.next run) → (ended : AreBelow rank at.next ends) → (top : ((j : ℕ) → j < length config.compactor.groups → rank limit < rank (net_at ports.outputs j).0)) → (fits : at.next + nets_in (a_compactor config ports run ends at).parts ≤ limit) →
    IsGood n rank at (a_compactor config ports run ends at).parts none (outputs_of config ports)
unfolding a_compactor
compactor_good n rank base limit at config ports run ends s from same update running ended top fits =
    let masks = segments config ports run 0 config.compactor.mask_inputs at in
    let a = behind at masks.parts in
    let gated = collect (λ chain. a_gated (masks_at masks.value chain).hold (net_at ends chain)) (range_with_len 0 config.chains) a in
    let b = behind a gated.parts in
    let count = length config.compactor.groups in
    let outputs = (each (an_output config ports gated.value) (range_with_len 0 count) b).parts in
    let first = segments_give n rank base at config ports run 0 config.compactor.mask_inputs s from same update running in
    let second = collect_good (λ chain. a_gated (masks_at masks.value chain).hold (net_at ends chain)) n rank (λ (_ : ℕ). Unit {0}) (IsBelow rank) a (range_with_len 0 config.chains) (λ x y v le h k past. h k (omega (arith, le, past))) (any (range_with_len 0 config.chains))
    (λ j d _ lib past. (
    let zeroth = none_below n.library rank base d.next s (omega (arith, from, past)) in
    let h = gated_gives n rank base d (masks_at masks.value j).hold (net_at ends j) s (omega (arith, from, past))
    (masked_at rank d.next masks.value j zeroth (all_more (AreMasked rank) a.next d.next masks.value (masked_more rank) past first.all))
    (below_at rank d.next ends j zeroth (below_more rank at.next d.next ends (omega (arith, past)) ended)) in
    (h.good, h.below.0)
    )) in
    good_after n rank at masks.parts (gated.parts ++ outputs) none (outputs_of config ports) first.good
    (good_after n rank a gated.parts outputs none (outputs_of config ports) second.good
    (each_good (an_output config ports gated.value) n rank limit (λ (j : ℕ). j < count) (λ j. one (net_at ports.outputs j).0) b (range_with_len 0 count) (numbers_below count)
    (omega (arith, fits, nets_in-append masks.parts (gated.parts ++ outputs), nets_in-append gated.parts outputs))
    (λ j d less lib past room. output_good n rank base limit d config ports gated.value j s (omega (arith, from, past)) (below_more rank b.next d.next gated.value past second.all) (top j less) room)))
