use Rattle.std.proofs.Common.{◌≡◌, ◌+◌, ◌-◌, ◌∙◌, ◌++◌, ◌∷◌, [], List, ap, arith, length, min}
use Rattle.dft_netlist.specs.declared.ids.InstanceId.{InstanceId}
use Rattle.dft_stitch.proofs.BlockLemmas.{cut_all, cut_more, cut_none}
use Rattle.dft_stitch.proofs.cutting.cut.Goals as goal

pub loop-chain-init : goal.loop-chain-init
loop-chain-init c = cut_none c.args.cells.now c.args.count c.in_ok-chains.chains.items c.in_ok-chains.ensures.items

pub loop-chain-preserved : goal.loop-chain-preserved
loop-chain-preserved c =
    let cells = c.args.cells.now in
    let start = c.loop-chain.start in
    let end : start + c.min.result ≡ start + min c.length_of.result (length cells - start) = omega (arith, c.min.ensures) in
    cut_more cells c.args.count c.loop-chain.chain start c.length_of.result (start + c.min.result) c.loop-chain.chains.items c.push.new.self.items (rw c.from-chain-end.ensures at c.loop-chain-test.true)
    (rw c.from-in-loop-chain.ensures at c.length_of.ensures) end
    (c.in_ok-push.ensures.items ∙ ap (λ (block : List InstanceId). c.loop-chain.chains.items ++ block ∷ []) c.in_ok-from_slice.ensures) c.loop-chain.invariant

pub returns : goal.returns
returns c = cut_all c.args.cells.now c.args.count c.loop-chain.chain c.loop-chain.start c.loop-chain.chains.items (rw c.from-chain-end.ensures at c.loop-chain-test.false) c.loop-chain.invariant
