-- One column more, and all.
use Rattle.std.proofs.Common.{◌++◌, ◌∙◌, ap, Bool}
use Rattle.std.specs.Option.{option_to_list}
use Rattle.dft_cube_reports.specs.Outcomes.{variable_of}
use Rattle.dft_cube_reports.proofs.VariableLemmas.{column_goes_on, columns_end}
use Rattle.dft_cube_reports.proofs.cell_sums.variables.Goals as goal

pub loop-column-preserved : goal.loop-column-preserved
loop-column-preserved c =
    column_goes_on c.args.ring.now c.args.row.now c.loop-column.column c.args.columns c.loop-column.variables.items c.add_variable.new.variables.items _ c.loop-column-test.true
    (c.in_ok-add_variable.ensures ∙ ap (λ (is_in : Bool). c.loop-column.variables.items ++ option_to_list (variable_of c.args.ring.now c.loop-column.column is_in)) c.has_bit.ensures) c.loop-column.invariant

pub returns : goal.returns
returns c = columns_end c.args.ring.now c.args.row.now c.loop-column.column c.args.columns c.loop-column.variables.items c.loop-column-test.false c.loop-column.invariant
