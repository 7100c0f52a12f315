-- One flip-flop more is listed.
use Rattle.std.proofs.Common.{map, ap, ◌∙◌}
use Rattle.dft_behavior.specs.Logic.{Cell}
use Rattle.dft_logic.specs.Circuit.{cell_of, cell_at, force_nets}
use Rattle.dft_logic.proofs.Writings.{cell_read}
use Rattle.dft_logic.proofs.TableLemmas.{table_start, table_more, table_packed}
use Rattle.dft_logic.proofs.tables.followers.Goals as goal

pub loop-place-init : goal.loop-place-init
loop-place-init c = table_start _ _ _ c.in_ok-table.ensures

pub loop-place-preserved : goal.loop-place-preserved
loop-place-preserved c =
    table_more _ c.loop-place.place (λ k. force_nets (cell_at (map cell_of c.args.flops.now) k).forces) c.loop-place.table.items _ _ c.loop-place.invariant
    (c.force_net.ensures ∙ ap (λ (k : Cell). force_nets k.forces) (cell_read c.args.flops.now c.loop-place.place _ c.loop-place-test.true)) c.in_ok-add_at.ensures

pub returns : goal.returns
returns c = table_packed _ _ c.loop-place.place _ _ _ _ c.in_ok-packed.ensures c.deref.ensures.value c.loop-place-test.false c.loop-place.auto.place-end c.loop-place.invariant
