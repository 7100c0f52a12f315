use Rattle.std.proofs.Common.{◌∙◌, sym}
use Rattle.dft_rules.specs.Rules as rules
use Rattle.dft_cubes.specs.Taking.{cube_of}
use Rattle.dft_cubes.proofs.GiveLemmas.{cell_twice}
use Rattle.dft_cubes.proofs.giving.give_cell.Goals as goal

pub returns-then-has_cell-clause-refused : goal.returns-then-has_cell-clause-refused
returns-then-has_cell-clause-refused c =
    let cube = cube_of c.args.draft.now in
    let given = c.requires.marked.cells_given in
    cell_twice cube c.args.here.now.place c.args.name.now c.in_ok-from_slice-2.field-0 (rules.flip_flop_named c.args.here.now.design.now c.args.name.now) c.in-Some.cell
    (sym c.flip_flop_named.ensures.found ∙ c.in-Some.is) (sym (c.has_cell.ensures cube.cells given) ∙ c.if-has_cell.true) c.in_ok-from_slice-2.ensures
