-- One more.
use Rattle.std.proofs.Common.{List, Bool, filter, sym, ap, ◌∙◌, Vec, Global}
use Rattle.std.proofs.lemmas.List.{take_all}
use Rattle.dft_netlist.specs.declared.ids.InstanceId.{InstanceId}
use Rattle.std.specs.Prelude.{◌||◌}
use Rattle.dft_logic.specs.Circuit.{flag_at}
use Rattle.dft_seek.proofs.Chosen.{chosen_push, chosen_skip}
use Rattle.dft_seek.proofs.tables.flagged_cells.Goals as goal
use Rattle.dft_seek.proofs.tables.flagged_cells.Goals.{then-has_either+in_ok-push, else-has_either}

pub loop-cell-preserved : goal.loop-cell-preserved
loop-cell-preserved c =
    let test : InstanceId → Bool = λ cell. flag_at c.args.one.now cell.0 || flag_at c.args.other.now cell.0 in
    elim c.if-has_either.branch [
      | then-has_either+in_ok-push w ↦ chosen_push test c.args.cells.now c.loop-cell.cell-index (record { 0 = 0 }) c.loop-cell.flagged.items c.if-has_either.flagged.items c.loop-cell-test.true
          (sym c.has_either.ensures ∙ w.if-has_either.true) (ap (λ (v : Vec InstanceId Global). v.items) w.flagged-is ∙ w.in_ok-push.ensures.items) c.loop-cell.invariant
      | else-has_either w ↦ chosen_skip test c.args.cells.now c.loop-cell.cell-index (record { 0 = 0 }) c.loop-cell.flagged.items c.if-has_either.flagged.items c.loop-cell-test.true
          (sym c.has_either.ensures ∙ w.if-has_either.false) (ap (λ (v : Vec InstanceId Global). v.items) w.flagged-is) c.loop-cell.invariant
    ]

pub returns : goal.returns
returns c = c.loop-cell.invariant ∙ ap (λ (xs : List InstanceId). filter (λ cell. flag_at c.args.one.now cell.0 || flag_at c.args.other.now cell.0) xs) (take_all c.loop-cell.cell-index c.args.cells.now c.loop-cell-test.false)
