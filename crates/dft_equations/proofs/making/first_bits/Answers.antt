-- One column more.
use Rattle.std.proofs.Common.{arith, sym}
use Rattle.std.proofs.lemmas.List.FromFn.{map-range_with_len_more}
use Rattle.dft_config.specs.Loads.{load_equation}
use Rattle.dft_equations.proofs.making.first_bits.Goals as goal

pub loop-column-preserved : goal.loop-column-preserved
loop-column-preserved c =
    rw (c.in_ok-push.ensures.items, c.loop-column.invariant, c.first_bit.ensures)
    (sym (map-range_with_len_more (load_equation c.args.config.now.ring c.args.cycles c.args.late c.args.chain 0) 0 c.loop-column.column c.loop-column.column (omega arith)))
