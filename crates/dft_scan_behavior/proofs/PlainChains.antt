-- In style Plain the planned chains stand between ports of their own.
use Rattle.std.proofs.Common.{ℕ, zero, suc, ◌+◌, ◌-◌, ◌<◌, ◌≤◌, ◌≡◌, List, [], ◌∷◌, length, None, Some, option_and_then, slice_get, refl, sym, subst, ap, arith, ◌∙◌}
use Rattle.std.specs.List.{range_with_len}
use Rattle.std.proofs.lemmas.Option.{none-some, slice_get_within}
use Rattle.dft_cells.specs.declared.kind.Gate.TheVariants.{Buf}
use Rattle.dft_netlist.specs.declared.ids.NetId.{NetId}
use Rattle.dft_netlist.specs.declared.ids.InstanceId.{InstanceId}
use Rattle.dft_netlist.specs.Netlist.{Netlist}
use Rattle.dft_netlist.specs.Drivers.{Net}
use Rattle.dft_behavior.specs.Logic.{Gate, Input, logic_of}
use Rattle.dft_config.specs.Config.{Config}
use Rattle.dft_stitch.specs.Chains.{cells_of, plan_of}
use Rattle.dft_stitch.specs.Plans.{cell_at}
use Rattle.dft_stitch.proofs.BlockLemmas.{chain_count}
use Rattle.dft_stitch.proofs.CellPlaces.{chain_within}
use Rattle.dft_chains.specs.Hardware.{Enters, Shows}
use Rattle.dft_parts.specs.Growth.{HasParts, instances_in}
use Rattle.dft_parts.specs.Recipes.{each, net_at}
use Rattle.dft_parts.proofs.Standing.{gate_stands}
use Rattle.dft_parts.proofs.Trees.{back}
use Rattle.dft_edt.proofs.PartLists.{each_there, range_at}
use Rattle.dft_scan_frame.specs.Statements.{IsReady}
use Rattle.dft_insert.specs.declared.style.Style.TheVariants.{Plain}
use Rattle.dft_insert.specs.Chained.{row_at, last_net}
use Rattle.dft_insert.specs.Ports.{gap_in, plain_out}
use Rattle.dft_insert.specs.Scanned.{a_plain_end}
use Rattle.dft_insert.specs.Statements.{scanned}
use Rattle.dft_insert.proofs.Finished.{scanned_single}
use Rattle.dft_insert.specs.Agreeing.{ports_in}
use Rattle.dft_scan_behavior.specs.Facts.{rows_in, plain_nets, HasPlainHardware}
use Rattle.dft_scan_behavior.proofs.ChainsHave.{into_is, chains_have}
use Rattle.dft_scan_behavior.proofs.Cuts.{plain_chain_parts, ends_start, end_parts, rest_of, all_there}
use Rattle.dft_scan_behavior.proofs.Lockups.{out_net, row_is}
use Rattle.dft_scan_behavior.proofs.Outputs.{IsShown, shown, means}
use Rattle.dft_scan_behavior.proofs.Planned.{IsPlanned, planned}
use Rattle.dft_scan_behavior.proofs.PortsDriven.{plain_means}
use Rattle.dft_scan_behavior.proofs.ScanInputs.{entry_joined}

pub none_past : {X : Type 0} (xs : List X) (k : ℕ) → slice_get xs k ≡ None → length xs ≤ k
none_past [] k e = omega arith
none_past (x ∷ xs) zero e = absurd (none-some x (sym e))
none_past (x ∷ xs) (suc k) e = omega (arith, none_past xs k e)

pub chain_less : (n : Netlist) (config : Config) (chain place : ℕ) (cell : InstanceId) → cell_at (plan_of n config).chains chain place ≡ Some cell → chain < config.chains
chain_less n config chain place cell stands = omega (arith, chain_within (plan_of n config).chains chain place cell stands, chain_count (cells_of n config) config.chains)

-- the last net of a row is that of the last cell
pub last_place : (chain place : ℕ) (cells : List InstanceId) (row : List NetId) (cell : InstanceId) → slice_get cells place ≡ Some cell → slice_get cells (suc place) ≡ None → length row ≡ length cells → length row - 1 ≡ place
last_place chain place cells row cell here past wide = omega (arith, slice_get_within cells place cell here, none_past cells (suc place) past, wide)

entry_has : (n : Netlist) (config : Config) (chain : ℕ) (cell : InstanceId) → IsReady n config → cell_at (plan_of n config).chains chain zero ≡ Some cell → Enters (logic_of (scanned Plain n config) (ports_in Plain n config)) (plain_nets n config) chain
entry_has n config chain cell ready stands =
    let s = planned Plain n config chain zero cell ready stands in
    let it = entry_joined Plain n config chain cell s ready stands in
    let before : ℕ = (gap_in Plain n config).before in
    let e : before + (1 + chain) ≡ before + 1 + chain = omega arith in
    record {
      first = into_is Plain n config chain zero cell s it.0 stands it.1 ∙ ap (λ (net : NetId). Net net.0) it.2;
      port = subst (λ k. (logic_of (scanned Plain n config) (ports_in Plain n config)).net k ≡ Input) e (plain_means n config (1 + chain) ready (omega (arith, chain_less n config chain zero cell stands)));
    }

ends_there : (n : Netlist) (config : Config) → HasParts (scanned Plain n config) (length n.instances + instances_in (rows_in Plain n config).parts + instances_in (plain_chain_parts n config)) (end_parts n config)
ends_there n config =
    back (scanned Plain n config) (length n.instances + instances_in (rows_in Plain n config).parts) (plain_chain_parts n config) (end_parts n config)
    (back (scanned Plain n config) (length n.instances) (rows_in Plain n config).parts (rest_of Plain n config) (all_there Plain n config))

end_means : (n : Netlist) (config : Config) (chain : ℕ) → IsReady n config → chain < length (plan_of n config).chains →
    (logic_of (scanned Plain n config) (ports_in Plain n config)).net (plain_out (gap_in Plain n config).before config.chains chain).0 ≡ Gate Buf (Net (last_net (row_at (rows_in Plain n config).value chain)).0 ∷ [])
end_means n config chain ready less =
    let count = length (plan_of n config).chains in
    let f = a_plain_end config (gap_in Plain n config) (rows_in Plain n config).value in
    let w : Netlist = scanned Plain n config in
    let number : ℕ = length n.instances + instances_in (rows_in Plain n config).parts + instances_in (plain_chain_parts n config) in
    let all = subst (λ (xs : List ℕ). HasParts w number (each f xs (ends_start n config)).parts) (range_at count chain less) (ends_there n config) in
    let its = each_there f w number (ends_start n config) (range_with_len 0 chain) (range_with_len (chain + 1) (count - (chain + 1))) chain all in
    gate_stands w (ports_in Plain n config) (number + instances_in (each f (range_with_len 0 chain) (ends_start n config)).parts) Buf (last_net (row_at (rows_in Plain n config).value chain) ∷ []) (plain_out (gap_in Plain n config).before config.chains chain)
    (scanned_single Plain n config ready) refl its.0

end_has : (n : Netlist) (config : Config) (chain place : ℕ) (cell : InstanceId) → IsReady n config → cell_at (plan_of n config).chains chain place ≡ Some cell → cell_at (plan_of n config).chains chain (suc place) ≡ None →
    Shows (logic_of (scanned Plain n config) (ports_in Plain n config)) cell.0 ((plain_nets n config).scan_out chain)
end_has n config chain place cell ready stands last =
    let s : IsPlanned Plain n config cell.0 = planned Plain n config chain place cell ready stands in
    let out : IsShown Plain n config cell s chain place = shown Plain n config cell s ready chain place stands in
    let past : slice_get out.cells (suc place) ≡ None = sym (ap (option_and_then (λ (cells : List InstanceId). slice_get cells (suc place))) out.chained) ∙ last in
    let row : row_at (rows_in Plain n config).value chain ≡ out.row = row_is Plain n config ready chain place cell cell.0 s out in
    let at : length (row_at (rows_in Plain n config).value chain) - 1 ≡ place = ap (λ (r : List NetId). length r - 1) row ∙ last_place chain place out.cells out.row cell out.stands past out.wide in
    record {
      output = out.net.0;
      buffer = end_means n config chain ready (chain_within (plan_of n config).chains chain place cell stands)
          ∙ ap (λ (net : NetId). Gate Buf (Net net.0 ∷ [])) (ap (net_at (row_at (rows_in Plain n config).value chain)) at ∙ out_net Plain n config ready chain place cell cell.0 s out);
      flop = means Plain n config cell s ready out.net out.joined;
    }

pub plain_has : HasPlainHardware
plain_has n config ready = record {
  has = chains_have Plain n config ready;
  entries = λ chain cell stands. entry_has n config chain cell ready stands;
  ends = λ chain place cell stands last. end_has n config chain place cell ready stands last;
}
