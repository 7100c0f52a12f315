-- Half of the table each way.
use Rattle.std.proofs.Common.{rules, ◌+◌, ◌-◌, length, take, drop, arith}
use Rattle.dft_evaluator.proofs.TableLemmas.{narrower, head_rest, table_chosen}
use Rattle.dft_evaluator.proofs.gates.+table_of.Goals as goal

pub table_of-requires : goal.table_of-requires
table_of-requires t c =
    let h = narrower c.args.inputs.now c.args.place c.args.place c.args.weight (omega arith) (omega arith) c.requires.place in
    (search rules, (c.requires.wides, (h.0, h.1)))

pub table_of-requires-in-len1-up : goal.table_of-requires-in-len1-up
table_of-requires-in-len1-up t c =
    let h = narrower c.args.inputs.now c.args.place (c.args.place + c.args.weight) c.args.weight (omega arith) (omega arith) c.requires.place in
    (search rules, (c.requires.wides, (h.0, h.1)))

pub returns-in-len1-up : goal.returns-in-len1-up
returns-in-len1-up t c =
    let rest = take (length c.args.inputs.now - 1) (drop 1 c.args.inputs.now) in
    table_chosen c.args.table c.args.place c.args.weight c.args.wides.now c.args.inputs.now rest _ c.wide_mux.result c.table_of.result c.table_of-in-len1-up.result c.operand.result
    (head_rest c.args.inputs.now _ (omega arith)) c.table_of.ensures c.table_of-in-len1-up.ensures c.operand.ensures c.wide_mux.ensures
