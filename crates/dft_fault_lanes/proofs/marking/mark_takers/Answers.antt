-- What one cell more reads is marked.
use Rattle.std.proofs.Common.{◌∙◌, ap, arith}
use Rattle.std.specs.Prelude.{◌&&◌, nat_lt}
use Rattle.std.proofs.lemmas.List.{get_or_default}
use Rattle.dft_registers.specs.declared.layout.Place.{Place}
use Rattle.dft_logic.specs.Circuit.{flag_at}
use Rattle.dft_fault_lanes.specs.Moves.{is_carried}
use Rattle.dft_fault_lanes.proofs.MarkLemmas.{taking_starts, taking_more}
use Rattle.dft_fault_lanes.proofs.marking.mark_takers.Goals as goal

pub loop-place-init : goal.loop-place-init
loop-place-init c = taking_starts c.args.flops.now c.args.steer (is_carried c.args.cells.now.layout c.args.moves.now) c.args.marked.now

pub loop-place-preserved : goal.loop-place-preserved
loop-place-preserved c =
    taking_more c.args.flops.now c.args.steer (is_carried c.args.cells.now.layout c.args.moves.now) c.args.marked.now c.loop-place.marked c.mark_cell.new.marked c.loop-place.place _ c.is_carried-carried.result c.loop-place-test.true
    (get_or_default c.args.flops.now c.loop-place.place _ _ c.loop-place-test.true) (c.is_carried-carried.ensures ∙ ap (λ (p : Place). flag_at c.args.moves.now p.register && nat_lt 0 p.index) c.place.ensures.at) c.mark_cell.ensures.enable c.mark_cell.ensures.reads
    c.loop-place.invariant

pub returns-clause-size : goal.returns-clause-size
returns-clause-size c = c.loop-place.invariant.size

pub returns-clause-kept : goal.returns-clause-kept
returns-clause-kept c = c.loop-place.invariant.kept

pub returns-clause-enables : goal.returns-clause-enables
returns-clause-enables c = λ cell less. c.loop-place.invariant.enables cell (omega (arith, less, c.loop-place-test.false))

pub returns-clause-reads : goal.returns-clause-reads
returns-clause-reads c = λ cell less. c.loop-place.invariant.reads cell (omega (arith, less, c.loop-place-test.false))
