use Rattle.std.proofs.Common.{◌∙◌}
use Rattle.dft_certify.proofs.NamingLemmas.{cube_at, named_none, named_some}
use Rattle.dft_certify.proofs.certifying.cube_named.Goals as goal

pub returns-in_err-find : goal.returns-in_err-find
returns-in_err-find c = rw c.from_residual.ensures (named_none c.args.names.now c.args.cubes.now c.args.name.now c.requires c.in_err-find.ensures)

pub returns : goal.returns
returns c = cube_at c.args.cubes.now c.in_ok-find.field-0 c.get.result c.get.ensures.lookup.3 ∙ named_some c.args.names.now c.args.cubes.now c.args.name.now c.in_ok-find.field-0 c.requires c.in_ok-find.ensures
