-- One net more is told.
use Rattle.std.proofs.Common.{ℕ, ◌≡◌, length, ap, subst, arith, ◌∙◌}
use Rattle.std.proofs.lemmas.List.{get_or_default}
use Rattle.dft_logic.specs.declared.circuit.Op.{Op}
use Rattle.dft_logic.specs.declared.circuit.Op.TheVariants.{Free}
use Rattle.dft_logic.specs.Circuit.{meaning, op_at}
use Rattle.dft_logic.specs.Tables.{IsTable}
use Rattle.dft_logic.proofs.TableLemmas.{table_start, table_more}
use Rattle.dft_seek.specs.Rigs.{cells_shown}
use Rattle.dft_seek.proofs.showing.showing.Goals as goal

pub loop-net-init : goal.loop-net-init
loop-net-init c = table_start _ _ _ c.in_ok-table.ensures

pub loop-net-preserved : goal.loop-net-preserved
loop-net-preserved c =
    table_more _ c.loop-net.net (λ k. cells_shown (meaning (op_at c.args.ops.now k))) c.loop-net.table.items _ _ c.loop-net.invariant
    (ap (λ (o : Op). cells_shown (meaning o)) (c.index-ops-net.is ∙ get_or_default c.args.ops.now c.loop-net.net _ Free c.loop-net-test.true)) c.in_ok-add_shown.ensures

pub returns : goal.returns
returns c =
    let count : c.loop-net.net ≡ length c.args.ops.now = omega (arith, c.loop-net-test.false, c.loop-net.auto.net-end) in
    subst (λ (n : ℕ). IsTable c.args.instances n (λ net. cells_shown (meaning (op_at c.args.ops.now net))) c.loop-net.table.items) count c.loop-net.invariant
