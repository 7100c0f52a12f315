-- The parts of each style are good.
use Rattle.std.proofs.Common.{ℕ, zero, suc, ◌+◌, ◌-◌, ◌≡◌, ◌<◌, ◌≤◌, List, [], ◌∷◌, ◌++◌, length, map, arith, ◌∙◌}
use Rattle.std.specs.List.{AllByRecursion, range_with_len}
use Rattle.dft_cells.specs.declared.kind.Gate.TheVariants.{Buf}
use Rattle.dft_netlist.specs.declared.ids.NetId.{NetId}
use Rattle.dft_netlist.specs.declared.ids.InstanceId.{InstanceId}
use Rattle.dft_netlist.specs.Netlist.{Netlist}
use Rattle.dft_config.specs.Config.{Config}
use Rattle.dft_stitch.specs.Plans.{Plan, falling_head}
use Rattle.dft_parts.specs.declared.edt_ports.EdtPorts.{EdtPorts}
use Rattle.dft_parts.specs.Recipes.{Start, nets_in, behind, each, net_at}
use Rattle.dft_edt.specs.RingRecipe.{a_ring}
use Rattle.dft_edt.proofs.PartLists.{nets_in-append}
use Rattle.dft_edt.specs.CompactorRecipe.{a_compactor}
use Rattle.dft_scan_frame.specs.Moves.{Gap}
use Rattle.dft_insert.specs.Chained.{rows, cells_at, row_at, last_net}
use Rattle.dft_insert.specs.Ports.{plain_in, plain_out}
use Rattle.dft_insert.specs.Scanned.{a_plain_chain, a_plain_end, plain_recipe, an_edt_chain, behind_rows, edt_recipe}
use Rattle.dft_insert.proofs.Goods.{IsBelow, AreBelow, none_below, below_more, below_at, none, one, IsGood, good_gate, good_after}
use Rattle.dft_insert.proofs.GoodSums.{all_of, each_good, all_more}
use Rattle.dft_insert.proofs.GoodRing.{any, ring_gives}
use Rattle.dft_insert.proofs.GoodCompactor.{numbers_below, outputs_of, compactor_good}
use Rattle.dft_insert.proofs.GoodChains.{IsScanCell, ChainSetting, each_none, rows_give, chain_good, fed_chain_good}

-- ---- chains and rows by their numbers

chain_cells : (n w : Netlist) (chains : List (List InstanceId)) (chain : ℕ) → AllByRecursion (AllByRecursion (IsScanCell n w)) chains → AllByRecursion (IsScanCell n w) (cells_at chains chain)
chain_cells n w [] chain h = tt
chain_cells n w (cells ∷ chains) zero h = h.0
chain_cells n w (cells ∷ chains) (suc chain) h = chain_cells n w chains chain h.1

row_below : (rank : ℕ → ℕ) (next : ℕ) (outputs : List (List NetId)) (chain : ℕ) → AllByRecursion (AreBelow rank next) outputs → AreBelow rank next (row_at outputs chain)
row_below rank next [] chain h = tt
row_below rank next (row ∷ outputs) zero h = h.0
row_below rank next (row ∷ outputs) (suc chain) h = row_below rank next outputs chain h.1

last_below : (rank : ℕ → ℕ) (next : ℕ) (row : List NetId) → IsBelow rank next (record { 0 = 0 }) → AreBelow rank next row → IsBelow rank next (last_net row)
last_below rank next row zeroth h = below_at rank next row (length row - 1) zeroth h

lasts_below : (rank : ℕ → ℕ) (next : ℕ) (outputs : List (List NetId)) → IsBelow rank next (record { 0 = 0 }) → AllByRecursion (AreBelow rank next) outputs → AreBelow rank next (map last_net outputs)
lasts_below rank next [] zeroth h = tt
lasts_below rank next (row ∷ outputs) zeroth h = (last_below rank next row zeroth h.0, lasts_below rank next outputs zeroth h.1)

rows_more : (rank : ℕ → ℕ) (next later : ℕ) (outputs : List (List NetId)) → next ≤ later → AllByRecursion (AreBelow rank next) outputs → AllByRecursion (AreBelow rank later) outputs
rows_more rank next later outputs le h = all_more (AreBelow rank) next later outputs (λ x y v less k. below_more rank x y v less k) le h

-- ---- style Plain

-- the scan outputs, as they are counted
abbrev pub ends_of : Config → Gap → (chains : ℕ) → ℕ → ℕ
ends_of config gap chains = all_of (λ chain. one (plain_out gap.before config.chains chain).0) (range_with_len 0 chains)

pub plain_good : (n w : Netlist) (config : Config) (plan : Plan) (gap : Gap) (rank : ℕ → ℕ) (base limit : ℕ) (at : Start) → ChainSetting n w config gap rank base → base ≤ at.next → at.library ≡ w.library → AllByRecursion (AllByRecursion (IsScanCell n w)) plan.chains →
    ((chain : ℕ) → chain < length plan.chains → rank limit < rank (plain_out gap.before config.chains chain).0) → at.next + nets_in (plain_recipe n config plan gap at).parts ≤ limit →
    IsGood w rank at (plain_recipe n config plan gap at).parts none (ends_of config gap (length plan.chains))
unfolding plain_recipe
plain_good n w config plan gap rank base limit at s from same are top fits =
    let count = length plan.chains in
    let outputs = rows n gap plan.chains at in
    let a = behind at outputs.parts in
    let chains = (each (a_plain_chain n config plan gap outputs.value) (range_with_len 0 count) a).parts in
    let b = behind a chains in
    let ends = (each (a_plain_end config gap outputs.value) (range_with_len 0 count) b).parts in
    let first = rows_give n w config gap rank base at plan.chains s from are in
    good_after w rank at outputs.parts (chains ++ ends) none (ends_of config gap count) first.good
    (good_after w rank a chains ends none (ends_of config gap count)
    (each_none (a_plain_chain n config plan gap outputs.value) w rank (λ (_ : ℕ). Unit {0}) a (range_with_len 0 count) (any (range_with_len 0 count))
    (λ chain d _ lib past. chain_good n w config gap rank base d plan.lockups chain (cells_at plan.chains chain) (row_at outputs.value chain) (plain_in gap.before chain) s (omega (arith, from, past)) (lib ∙ same) (chain_cells n w plan.chains chain are)
    (row_below rank d.next outputs.value chain (rows_more rank a.next d.next outputs.value past first.all))))
    (each_good (a_plain_end config gap outputs.value) w rank limit (λ (chain : ℕ). chain < count) (λ chain. one (plain_out gap.before config.chains chain).0) b (range_with_len 0 count) (numbers_below count)
    (omega (arith, fits, nets_in-append outputs.parts (chains ++ ends), nets_in-append chains ends))
    (λ chain d less lib past room. (
    let ended = last_below rank d.next (row_at outputs.value chain) (none_below w.library rank base d.next s.setting (omega (arith, from, past))) (row_below rank d.next outputs.value chain (rows_more rank a.next d.next outputs.value (omega (arith, past)) first.all)) in
    let below = ended limit (omega (arith, room)) in
    let above = top chain less in
    good_gate w rank d Buf (last_net (row_at outputs.value chain) ∷ []) (plain_out gap.before config.chains chain) ((omega (arith, below, above)), tt)
    ))))

-- ---- style Edt

-- the added inputs stand below what is made
pub record PortsBelow (rank : ℕ → ℕ) (next : ℕ) (ports : EdtPorts) : Type 0 where
  pub clock : IsBelow rank next ports.edt_clock
  pub update : IsBelow rank next ports.edt_update
  pub channels : AreBelow rank next ports.channels

ports_more : (rank : ℕ → ℕ) (next later : ℕ) (ports : EdtPorts) → next ≤ later → PortsBelow rank next ports → PortsBelow rank later ports
ports_more rank next later ports le h = record {
  clock = λ k past. h.clock k (omega (arith, le, past));
  update = λ k past. h.update k (omega (arith, le, past));
  channels = below_more rank next later ports.channels le h.channels;
}

behind_good : (n w : Netlist) (config : Config) (plan : Plan) (gap : Gap) (ports : EdtPorts) (outputs : List (List NetId)) (rank : ℕ → ℕ) (base limit : ℕ) (at : Start) → ChainSetting n w config gap rank base → (from : base ≤ at.next) → (same : at.library ≡ w.library) →
    (are : AllByRecursion (AllByRecursion (IsScanCell n w)) plan.chains) → (entries : PortsBelow rank at.next ports) → (below : AllByRecursion (AreBelow rank at.next) outputs) → (top : ((j : ℕ) → j < length config.compactor.groups → rank limit < rank (net_at ports.outputs j).0)) →
    (fits : at.next + nets_in (behind_rows n config plan gap ports outputs at).parts ≤ limit) → IsGood w rank at (behind_rows n config plan gap ports outputs at).parts none (outputs_of config ports)
unfolding behind_rows
behind_good n w config plan gap ports outputs rank base limit at s from same are entries below top fits =
    let count = length plan.chains in
    let ring = a_ring config ports at in
    let a = behind at ring.parts in
    let chains = (each (an_edt_chain n config plan gap ports ring.value.phases outputs) (range_with_len 0 count) a).parts in
    let b = behind a chains in
    let compactor = (a_compactor config ports ring.value.run (map last_net outputs) b).parts in
    let first = ring_gives w rank base at config ports s.setting from same entries.channels entries.update in
    let late : at.next ≤ b.next = omega arith in
    let running : AreBelow rank b.next (ring.value.run ∷ []) = below_more rank a.next b.next (ring.value.run ∷ []) (omega arith) (first.run, tt) in
    good_after w rank at ring.parts (chains ++ compactor) none (outputs_of config ports) first.good
    (good_after w rank a chains compactor none (outputs_of config ports)
    (each_none (an_edt_chain n config plan gap ports ring.value.phases outputs) w rank (λ (_ : ℕ). Unit {0}) a (range_with_len 0 count) (any (range_with_len 0 count))
    (λ chain d _ lib past. fed_chain_good (falling_head plan chain) n w config gap rank base d plan.lockups chain (cells_at plan.chains chain) (row_at outputs chain) ports.edt_clock (net_at ring.value.phases chain) s (omega (arith, from, past)) (lib ∙ same) (chain_cells n w plan.chains chain are)
    (row_below rank d.next outputs chain (rows_more rank at.next d.next outputs (omega (arith, past)) below)) (ports_more rank at.next d.next ports (omega (arith, past)) entries).clock
    (below_at rank d.next ring.value.phases chain (none_below w.library rank base d.next s.setting (omega (arith, from, past))) (below_more rank a.next d.next ring.value.phases past first.phases))))
    (compactor_good w rank base limit b config ports ring.value.run (map last_net outputs) s.setting (omega (arith, from)) same (ports_more rank at.next b.next ports late entries).update running.0
    (lasts_below rank b.next outputs (none_below w.library rank base b.next s.setting (omega (arith, from))) (rows_more rank at.next b.next outputs late below)) top
    (omega (arith, fits, nets_in-append ring.parts (chains ++ compactor), nets_in-append chains compactor))))

pub edt_good : (n w : Netlist) (config : Config) (plan : Plan) (gap : Gap) (ports : EdtPorts) (rank : ℕ → ℕ) (base limit : ℕ) (at : Start) → ChainSetting n w config gap rank base → (from : base ≤ at.next) → (same : at.library ≡ w.library) →
    (are : AllByRecursion (AllByRecursion (IsScanCell n w)) plan.chains) → (entries : PortsBelow rank at.next ports) → (top : ((j : ℕ) → j < length config.compactor.groups → rank limit < rank (net_at ports.outputs j).0)) →
    (fits : at.next + nets_in (edt_recipe n config plan gap ports at).parts ≤ limit) → IsGood w rank at (edt_recipe n config plan gap ports at).parts none (outputs_of config ports)
unfolding edt_recipe
edt_good n w config plan gap ports rank base limit at s from same are entries top fits =
    let outputs = rows n gap plan.chains at in
    let a = behind at outputs.parts in
    let rest = (behind_rows n config plan gap ports outputs.value a).parts in
    let first = rows_give n w config gap rank base at plan.chains s from are in
    good_after w rank at outputs.parts rest none (outputs_of config ports) first.good
    (behind_good n w config plan gap ports outputs.value rank base limit a s (omega (arith, from)) same are (ports_more rank at.next a.next ports (omega arith) entries) first.all top (omega (arith, fits, nets_in-append outputs.parts rest)))
