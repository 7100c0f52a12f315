-- An inverse goes through completions, and a table starts at place 0 with weight 1.
use Rattle.std.proofs.Common.{◌≤◌, length, arith}
use Rattle.std.proofs.Math.Pow.{pow_mono}
use Rattle.dft_cells.specs.Gates.{all_one, any_one, odd_ones}
use Rattle.dft_evaluator.proofs.FoldLemmas.{inputs_at}
use Rattle.dft_evaluator.proofs.GateLemmas.{inverted, inverse, muxed}
use Rattle.dft_evaluator.proofs.gates.gate.Goals as goal

pub table_of-requires-clause-place : goal.table_of-requires-clause-place
table_of-requires-clause-place c =
    let takes = rw c.in-Table.is at c.requires.takes in
    let small : length c.args.inputs.now ≤ 6 = takes.1 in
    let up = pow_mono {i = length c.args.inputs.now} {j = 6} small in
    omega (arith, up)

pub returns-in-Inv : goal.returns-in-Inv
returns-in-Inv c =
    let takes = rw c.in-Inv.is at c.requires.takes in
    rw c.in-Inv.is (inverse c.args.wides.now c.args.inputs.now _ c.wide_not.result c.operand-in-Inv.result takes c.operand-in-Inv.ensures c.wide_not.ensures)

pub returns-in-Nand : goal.returns-in-Nand
returns-in-Nand c = rw c.in-Nand.is (inverted all_one (inputs_at c.args.wides.now c.args.inputs.now) c.wide_not-in-Nand.result c.and_of-in-Nand.result c.and_of-in-Nand.ensures c.wide_not-in-Nand.ensures)

pub returns-in-Nor : goal.returns-in-Nor
returns-in-Nor c = rw c.in-Nor.is (inverted any_one (inputs_at c.args.wides.now c.args.inputs.now) c.wide_not-in-Nor.result c.or_of-in-Nor.result c.or_of-in-Nor.ensures c.wide_not-in-Nor.ensures)

pub returns-in-Xnor : goal.returns-in-Xnor
returns-in-Xnor c = rw c.in-Xnor.is (inverted odd_ones (inputs_at c.args.wides.now c.args.inputs.now) c.wide_not-in-Xnor.result c.xor_of-in-Xnor.result c.xor_of-in-Xnor.ensures c.wide_not-in-Xnor.ensures)

pub returns-in-Mux2 : goal.returns-in-Mux2
returns-in-Mux2 c =
    let takes = rw c.in-Mux2.is at c.requires.takes in
    rw c.in-Mux2.is (muxed c.args.wides.now c.args.inputs.now _ _ _ c.wide_mux.result c.operand-in-Mux2.result c.operand-in-Mux2-2.result c.operand-in-Mux2-3.result takes
    c.operand-in-Mux2.ensures c.operand-in-Mux2-2.ensures c.operand-in-Mux2-3.ensures c.wide_mux.ensures)
