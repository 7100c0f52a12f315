use Rattle.std.proofs.Common.{◌≡◌, ◌≤◌, ◌++◌, ◌∷◌, ◌∙◌, List, [], ap, arith, get_or, length, subst, sym}
use Rattle.std.proofs.lemmas.List.{map_more}
use Rattle.std.proofs.lemmas.List.Elements.{All-get_or}
use Rattle.std.proofs.lemmas.Option.{get_or_from_slice_get, slice_get_within}
use Rattle.dft_netlist.specs.declared.ids.InstanceId.{InstanceId}
use Rattle.dft_configuring.proofs.lengths.lengths_of.Goals as goal

pub loop-chain-preserved : goal.loop-chain-preserved
loop-chain-preserved c =
    let chains : List (List InstanceId) = c.args.chains.now.chains in
    let cells : List InstanceId = c.chain-cells.result.now in
    let same : length cells ≡ length (get_or chains c.loop-chain.chain cells) = ap length (sym (get_or_from_slice_get chains c.loop-chain.chain cells cells c.chain-cells.ensures)) in
    c.in_ok-push.ensures.items ∙ (λ i. c.loop-chain.invariant i ++ same i ∷ [])
    ∙ sym (map_more (length {A = InstanceId}) chains c.loop-chain.chain cells (slice_get_within chains c.loop-chain.chain cells c.chain-cells.ensures))

pub overflow_cast-cells : goal.overflow_cast-cells
overflow_cast-cells c =
    let plan = c.args.chains.now in
    let cells = c.chain-cells.result.now in
    let P : List InstanceId → Type 0 = λ cs. length cs ≤ plan.cycles in
    let fits = subst P (get_or_from_slice_get plan.chains c.loop-chain.chain cells cells c.chain-cells.ensures)
    (All-get_or P plan.chains c.loop-chain.chain cells (slice_get_within plan.chains c.loop-chain.chain cells c.chain-cells.ensures) c.requires.cells) in
    omega (arith, fits, c.requires.cycles)
