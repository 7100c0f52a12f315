use Rattle.std.proofs.Common.{arith, sym, subst, ◌∙◌}
use Rattle.dft_parts.specs.Recipes.{AreThere}
use Rattle.dft_insert.proofs.MadeParts.{lasts_there}
use Rattle.dft_insert.proofs.edt.make_ends.Goals as goal

pub build_compactor-requires-clause-ends : goal.build_compactor-requires-clause-ends
build_compactor-requires-clause-ends c =
    subst (AreThere c.args.parts.now.netlist) (sym (c.deref.ensures.value ∙ c.in_ok-ends.ensures)) (lasts_there c.args.parts.now.netlist c.args.rows.now (omega (arith, c.requires.inverse)) c.requires.rows)
