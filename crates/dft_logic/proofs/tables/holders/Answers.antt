-- One lock-up more is listed.
use Rattle.std.proofs.Common.{Option, None, ap, ◌∙◌}
use Rattle.std.proofs.lemmas.List.{get_or_default}
use Rattle.dft_logic.specs.declared.circuit.Latch.{Latch}
use Rattle.dft_logic.specs.Circuit.{latch_of, latch_at, latch_domains}
use Rattle.dft_logic.proofs.TableLemmas.{table_start, table_more, table_packed}
use Rattle.dft_logic.proofs.tables.holders.Goals as goal

pub loop-place-init : goal.loop-place-init
loop-place-init c = table_start _ _ _ c.in_ok-table.ensures

pub loop-place-preserved : goal.loop-place-preserved
loop-place-preserved c =
    table_more _ c.loop-place.place (λ k. latch_domains (latch_at c.args.latches.now k)) c.loop-place.table.items _ _ c.loop-place.invariant
    (c.latch_domain.ensures ∙ ap (λ (x : Option Latch). latch_domains (latch_of x)) (get_or_default c.args.latches.now c.loop-place.place _ None c.loop-place-test.true)) c.in_ok-add_at.ensures

pub returns : goal.returns
returns c = table_packed _ _ c.loop-place.place _ _ _ _ c.in_ok-packed.ensures c.deref.ensures.value c.loop-place-test.false c.loop-place.auto.place-end c.loop-place.invariant
