-- The load and the response of each pattern.
use Rattle.std.proofs.Common.{◌<◌, length, arith}
use Rattle.dft_netlist.proofs.NotesLemmas.{item_at}
use Rattle.dft_encode.proofs.filling.steps.Goals as goal

pub step-requires-clause-load : goal.step-requires-clause-load
step-requires-clause-load c =
    let load = c.index-loads-k.result in
    c.requires.loads c.loop-k.k load (item_at c.args.loads.now c.loop-k.k load c.loop-k-test.true c.index-loads-k.is)

pub step-requires-clause-captured : goal.step-requires-clause-captured
step-requires-clause-captured c = λ merged there.
    let load = c.index-loads-k.result in
    let response = c.index-responses-k.result in
    let less : c.loop-k.k < length c.args.responses.now = omega (arith, c.loop-k-test.true, c.requires.captured.count) in
    c.requires.captured.each c.loop-k.k load response merged (item_at c.args.loads.now c.loop-k.k load c.loop-k-test.true c.index-loads-k.is) (item_at c.args.responses.now c.loop-k.k response less c.index-responses-k.is) there
