-- One operand more is listed.
use Rattle.std.proofs.lemmas.List.{get_or_default}
use Rattle.dft_logic.proofs.TableLemmas.{adding_more, adding_all}
use Rattle.dft_logic.proofs.tables.add_inputs.Goals as goal

pub loop-input-preserved : goal.loop-input-preserved
loop-input-preserved c =
    adding_more c.args.inputs.now c.args.reader c.args.table.now.items c.loop-input.table.items c.add_at.new.table.items c.loop-input.input-index _ _ c.loop-input-test.true (get_or_default c.args.inputs.now c.loop-input.input-index _ _ c.loop-input-test.true) c.net_of.ensures c.in_ok-add_at.ensures c.loop-input.invariant

pub returns : goal.returns
returns c = adding_all c.args.inputs.now c.args.reader c.args.table.now.items c.loop-input.table.items c.loop-input.input-index c.loop-input-test.false c.loop-input.invariant
