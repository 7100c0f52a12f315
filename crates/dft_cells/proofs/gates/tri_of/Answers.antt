-- An inverse goes through completions, and a table starts at place 0 with weight 1.
use Rattle.std.proofs.Common.{◌∙◌, ◌≤◌, sym, ap, length, arith}
use Rattle.std.proofs.Math.Pow.{pow_mono}
use Rattle.dft_cells.specs.Gates.{all_one, any_one, odd_ones}
use Rattle.dft_cells.specs.Tables.{not_tri}
use Rattle.dft_cells.proofs.Pairs.{shared_not}
use Rattle.dft_cells.proofs.gates.tri_of.Goals as goal

pub returns-in-Nand : goal.returns-in-Nand
returns-in-Nand c = rw c.in-Nand.is (c.not-in-Nand.ensures ∙ ap not_tri c.and_of-in-Nand.ensures ∙ sym (shared_not all_one c.args.inputs.now))

pub returns-in-Nor : goal.returns-in-Nor
returns-in-Nor c = rw c.in-Nor.is (c.not-in-Nor.ensures ∙ ap not_tri c.or_of-in-Nor.ensures ∙ sym (shared_not any_one c.args.inputs.now))

pub returns-in-Xnor : goal.returns-in-Xnor
returns-in-Xnor c = rw c.in-Xnor.is (c.not-in-Xnor.ensures ∙ ap not_tri c.xor_of-in-Xnor.ensures ∙ sym (shared_not odd_ones c.args.inputs.now))

pub tri_of_table-requires : goal.tri_of_table-requires
tri_of_table-requires c =
    let takes = rw c.in-Table.is at c.requires in
    let small : length c.args.inputs.now ≤ 6 = takes.1 in
    let up = pow_mono {i = length c.args.inputs.now} {j = 6} small in
    omega (arith, up)
