use Rattle.std.proofs.Common.{◌≡◌, ◌≤◌, ◌∙◌, ℕ, List, Option, ap, arith, length, subst, sym}
use Rattle.std.specs.List.{All}
use Rattle.std.proofs.lemmas.List.FromFn.{length-map-range_with_len}
use Rattle.std.proofs.lemmas.Result.{err_from_is_err_and}
use Rattle.dft_netlist.specs.declared.ids.InstanceId.{InstanceId}
use Rattle.dft_rules.specs.declared.judged.Judged.{Judged}
use Rattle.dft_rules.specs.Rules.{judged}
use Rattle.dft_stitch.specs.Chains.{cells_of, chain_lengths, chains_of, cycles_of, heads_of, lockups_of, scanned_cells}
use Rattle.dft_stitch.specs.Limits.{IsRefusal, refusal_of}
use Rattle.dft_stitch.specs.Shown.{Knows}
use Rattle.dft_stitch.specs.Tables.{AreBelow}
use Rattle.dft_stitch.proofs.BlockLemmas.{blocks_below, blocks_short, cells_below, chain_count}
use Rattle.dft_stitch.proofs.PlanLemmas.{few_cells, plan_is, refused_for}
use Rattle.dft_stitch.proofs.planning.plan.Goals as goal

pub scanned_cells-requires : goal.scanned_cells-requires
scanned_cells-requires c =
    let n = c.args.design.now in
    let size : length c.args.verdicts.now ≡ length n.instances = ap length c.requires.verdicts ∙ length-map-range_with_len (judged n c.args.config.now) 0 (length n.instances) in
    omega (arith, size, ap length c.instances-count.ensures.instances)

pub cut-requires-clause-some : goal.cut-requires-clause-some
cut-requires-clause-some c = omega (arith, c.soundness.ensures.chains.0, c.chains.ensures)

pub cut-requires-clause-few : goal.cut-requires-clause-few
cut-requires-clause-few c =
    let few = few_cells c.args.config.now _ c.in_ok-cycles.ensures.fits in
    omega (arith, few, ap length c.deref.ensures.value)

pub find_lockups-requires-clause-few : goal.find_lockups-requires-clause-few
find_lockups-requires-clause-few c =
    let is : c.deref-3.result.now ≡ chains_of c.deref.result.now c.args.config.now.chains = c.deref-3.ensures.value ∙ (rw c.chains.ensures at c.in_ok-chains.ensures) in
    let count = chain_count c.deref.result.now c.args.config.now.chains in
    omega (arith, ap length is, count, c.soundness.ensures.chains.1)

pub find_lockups-requires-clause-short : goal.find_lockups-requires-clause-short
find_lockups-requires-clause-short c =
    let cells = c.deref.result.now in
    let is : c.deref-3.result.now ≡ chains_of cells c.args.config.now.chains = c.deref-3.ensures.value ∙ (rw c.chains.ensures at c.in_ok-chains.ensures) in
    let few = few_cells c.args.config.now _ c.in_ok-cycles.ensures.fits in
    let le : length cells ≤ 65536 = omega (arith, few, ap length c.deref.ensures.value) in
    let P : List (List InstanceId) → Type 0 = λ chains. All (λ (block : List InstanceId). length block ≤ 65536) chains in
    subst P (sym is) (blocks_short (chain_lengths (length cells) c.args.config.now.chains) cells 65536 le)

pub find_places-requires-clause-few : goal.find_places-requires-clause-few
find_places-requires-clause-few c =
    let is : c.deref-4.result.now ≡ chains_of c.deref.result.now c.args.config.now.chains = c.deref-4.ensures.value ∙ (rw c.chains.ensures at c.in_ok-chains.ensures) in
    let count = chain_count c.deref.result.now c.args.config.now.chains in
    omega (arith, ap length is, count, c.soundness.ensures.chains.1)

pub find_places-requires-clause-short : goal.find_places-requires-clause-short
find_places-requires-clause-short c =
    let cells = c.deref.result.now in
    let is : c.deref-4.result.now ≡ chains_of cells c.args.config.now.chains = c.deref-4.ensures.value ∙ (rw c.chains.ensures at c.in_ok-chains.ensures) in
    let few = few_cells c.args.config.now _ c.in_ok-cycles.ensures.fits in
    let le : length cells ≤ 65536 = omega (arith, few, ap length c.deref.ensures.value) in
    let P : List (List InstanceId) → Type 0 = λ chains. All (λ (block : List InstanceId). length block ≤ 65536) chains in
    subst P (sym is) (blocks_short (chain_lengths (length cells) c.args.config.now.chains) cells 65536 le)

pub find_places-requires-clause-below : goal.find_places-requires-clause-below
find_places-requires-clause-below c =
    let n = c.args.design.now in
    let v = c.args.verdicts.now in
    let cells = c.deref.result.now in
    let is : c.deref-4.result.now ≡ chains_of cells c.args.config.now.chains = c.deref-4.ensures.value ∙ (rw c.chains.ensures at c.in_ok-chains.ensures) in
    let scanned : cells ≡ scanned_cells v (length c.args.config.now.domains) = c.deref.ensures.value ∙ c.in_ok-cells.ensures ∙ ap (λ (xs : List (List ℕ)). scanned_cells v (length xs)) c.domains.ensures in
    let size : length v ≡ length c.instances-count.result.now = ap length c.requires.verdicts ∙ length-map-range_with_len (judged n c.args.config.now) 0 (length n.instances) ∙ sym (ap length c.instances-count.ensures.instances) in
    let below : AreBelow (length c.instances-count.result.now) cells = (
    let P : List InstanceId → Type 0 = λ xs. AreBelow (length c.instances-count.result.now) xs in
    let Q : ℕ → Type 0 = λ m. AreBelow m (scanned_cells v (length c.args.config.now.domains)) in
    subst P (sym scanned) (subst Q size (cells_below v (length c.args.config.now.domains)))) in
    let R : List (List InstanceId) → Type 0 = λ chains. All (AreBelow (length c.instances-count.result.now)) chains in
    subst R (sym is) (blocks_below (length c.instances-count.result.now) (chain_lengths (length cells) c.args.config.now.chains) cells below)

pub invariant_of-result : goal.invariant_of-result
invariant_of-result c =
    let count = chain_count c.deref.result.now c.args.config.now.chains in
    let P : List (List InstanceId) → Type 0 = λ chains. Knows chains c.in_ok-places.places.items in
    record {
      few = omega (arith, ap length (rw c.chains.ensures at c.in_ok-chains.ensures), count, c.soundness.ensures.chains.1);
      places = subst P c.deref-4.ensures.value c.in_ok-places.ensures;
    }

pub returns-clause-plan : goal.returns-clause-plan
returns-clause-plan c =
    let n = c.args.design.now in
    let config = c.args.config.now in
    let v = c.args.verdicts.now in
    let cells = c.in_ok-cells.cells.items in
    let scanned : cells ≡ cells_of n config = c.in_ok-cells.ensures ∙ ap (λ (xs : List (List ℕ)). scanned_cells v (length xs)) c.domains.ensures ∙ ap (λ (xs : List (Option Judged)). scanned_cells xs (length config.domains)) c.requires.verdicts in
    let cut : c.in_ok-chains.chains.items ≡ chains_of cells config.chains = (rw c.chains.ensures at c.in_ok-chains.ensures) ∙ ap (λ (xs : List InstanceId). chains_of xs config.chains) c.deref.ensures.value in
    let lockups : c.in_ok-lockups.lockups.items ≡ lockups_of v c.in_ok-chains.chains.items = c.in_ok-lockups.ensures ∙ ap (lockups_of v) c.deref-3.ensures.value in
    let heads : c.in_ok-heads.heads.items ≡ heads_of v c.in_ok-chains.chains.items = c.in_ok-heads.ensures ∙ ap (heads_of v) c.deref-2.ensures.value in
    plan_is n config v cells c.in_ok-chains.chains.items c.in_ok-heads.heads.items c.in_ok-lockups.lockups.items c.in_ok-cycles.cycles c.requires.verdicts scanned cut heads lockups (c.in_ok-cycles.ensures.cycles ∙ ap (cycles_of config) (c.len.ensures ∙ c.in_ok-cells.cells.ok.0))

pub returns-clause-fits : goal.returns-clause-fits
returns-clause-fits c =
    let n = c.args.design.now in
    let config = c.args.config.now in
    let v = c.args.verdicts.now in
    let scanned : c.in_ok-cells.cells.items ≡ cells_of n config = c.in_ok-cells.ensures ∙ ap (λ (xs : List (List ℕ)). scanned_cells v (length xs)) c.domains.ensures ∙ ap (λ (xs : List (Option Judged)). scanned_cells xs (length config.domains)) c.requires.verdicts in
    ap (λ (xs : List InstanceId). refusal_of config (length xs)) (sym scanned) ∙ ap (refusal_of config) (sym (c.len.ensures ∙ c.in_ok-cells.cells.ok.0)) ∙ c.in_ok-cycles.ensures.fits

pub returns-in_err-cycles-clause-refused : goal.returns-in_err-cycles-clause-refused
returns-in_err-cycles-clause-refused c =
    let n = c.args.design.now in
    let config = c.args.config.now in
    let v = c.args.verdicts.now in
    let p = err_from_is_err_and c.from_residual-in_err-cycles.result c.from_residual-in_err-cycles.ensures.1 in
    let scanned : c.in_ok-cells.cells.items ≡ cells_of n config = c.in_ok-cells.ensures ∙ ap (λ (xs : List (List ℕ)). scanned_cells v (length xs)) c.domains.ensures ∙ ap (λ (xs : List (Option Judged)). scanned_cells xs (length config.domains)) c.requires.verdicts in
    let P : ℕ → Type 0 = λ m. IsRefusal (refusal_of config m) c.in_err-cycles.field-0.0 in
    let refused = subst P (c.len.ensures ∙ c.in_ok-cells.cells.ok.0) c.in_err-cycles.ensures.refused in
    rw (p.1, p.2) (refused_for n config c.in_ok-cells.cells.items c.in_err-cycles.field-0.0 scanned refused)
