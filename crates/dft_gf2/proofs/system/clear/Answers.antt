-- The row that the column leads is added.
use Rattle.std.proofs.Common.{arith, refl}
use Rattle.dft_gf2.specs.Rows.{row_at}
use Rattle.dft_gf2.proofs.Reductions.{reduced_added, cleared_added}
use Rattle.dft_gf2.proofs.system.clear.Goals as goal

pub add_to-requires-clause-place : goal.add_to-requires-clause-place
add_to-requires-clause-place c = (c.requires.led _ _ c.in-Some.is).0

pub add_to-requires-clause-set : goal.add_to-requires-clause-set
add_to-requires-clause-set c = (omega (arith, c.requires.within, c.requires.rows.0), (c.requires.led _ _ c.in-Some.is).1.1)

pub add_to-requires-clause-sums : goal.add_to-requires-clause-sums
add_to-requires-clause-sums c = c.requires.named _ _ c.in-Some.is

pub returns-in-Some-clause-reduced : goal.returns-in-Some-clause-reduced
returns-in-Some-clause-reduced c =
    reduced_added c.args.rows.now c.args.row_of.now c.args.column c.in-Some.place c.args.trial.now (row_at c.args.rows.now c.in-Some.place) c.add_to.new.trial c.in-Some.is refl c.add_to.ensures

pub returns-in-Some-clause-cleared : goal.returns-in-Some-clause-cleared
returns-in-Some-clause-cleared c =
    cleared_added c.args.rows.now c.args.row_of.now c.args.column c.in-Some.place c.args.trial.now (row_at c.args.rows.now c.in-Some.place) c.add_to.new.trial refl
    (c.requires.led _ _ c.in-Some.is).1 c.requires.last c.add_to.ensures
