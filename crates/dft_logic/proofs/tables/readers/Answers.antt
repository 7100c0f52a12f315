-- One net more is listed.
use Rattle.std.proofs.Common.{ap, ◌∙◌}
use Rattle.std.proofs.lemmas.List.{get_or_default}
use Rattle.dft_logic.specs.declared.circuit.Op.{Op}
use Rattle.dft_logic.specs.declared.circuit.Op.TheVariants.{Free}
use Rattle.dft_behavior.specs.Logic.{reads}
use Rattle.dft_logic.specs.Circuit.{meaning, op_at}
use Rattle.dft_logic.proofs.TableLemmas.{table_start, table_more, table_packed}
use Rattle.dft_logic.proofs.tables.readers.Goals as goal

pub loop-net-init : goal.loop-net-init
loop-net-init c = table_start _ _ _ c.in_ok-table.ensures

pub loop-net-preserved : goal.loop-net-preserved
loop-net-preserved c =
    table_more _ c.loop-net.net (λ k. reads (meaning (op_at c.args.ops.now k))) c.loop-net.table.items _ _ c.loop-net.invariant
    (ap (λ (o : Op). reads (meaning o)) (c.index-ops-net.is ∙ get_or_default c.args.ops.now c.loop-net.net _ Free c.loop-net-test.true)) c.in_ok-add_reader.ensures

pub returns : goal.returns
returns c = table_packed _ _ c.loop-net.net _ _ _ _ c.in_ok-packed.ensures c.deref.ensures.value c.loop-net-test.false c.loop-net.auto.net-end c.loop-net.invariant
