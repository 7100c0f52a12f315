use Rattle.std.proofs.Common.{refl}
use Rattle.dft_merge.specs.LoadPlan.{columns_by, rows_by}
use Rattle.dft_merge.proofs.SystemLemmas.{taken_implied, taken_kept}
use Rattle.dft_merge.proofs.adding.add_cell.Goals as goal

pub returns-in-Kept-clause-added : goal.returns-in-Kept-clause-added
returns-in-Kept-clause-added c =
    taken_kept (columns_by c.args.loads.now) c.args.system.now.columns c.in-Some.row.now (rows_by c.args.loads.now c.args.cell) c.args.bit c.args.id c.args.system.now c.try_add.new.self
    c.requires.columns c.in-Some.ensures.1 (c.in-Kept.ensures.kept.0 refl) c.in-Kept.ensures.after

pub returns-in-Implied-clause-added : goal.returns-in-Implied-clause-added
returns-in-Implied-clause-added c =
    taken_implied (columns_by c.args.loads.now) c.args.system.now.columns c.in-Some.row.now (rows_by c.args.loads.now c.args.cell) c.args.bit c.args.id c.args.system.now c.try_add.new.self
    c.requires.columns c.in-Some.ensures.1 c.in-Implied.ensures.kept c.in-Implied.ensures.implied c.in-Implied.ensures.conflict c.in-Implied.ensures.after
