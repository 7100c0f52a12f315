use Rattle.std.proofs.Common.{length, sym, subst}
use Rattle.dft_parts.specs.Recipes.{AreThere}
use Rattle.dft_edt.proofs.outputs.sum_group.Goals as goal

pub sum-requires-clause-there : goal.sum-requires-clause-there
sum-requires-clause-there c = subst (AreThere c.args.parts.now.netlist) (sym c.deref.ensures.value) (c.in_ok-terms.ensures.below (length c.args.parts.now.netlist.nets) c.requires.there)
