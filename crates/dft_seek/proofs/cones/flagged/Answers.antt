-- One more.
use Rattle.std.proofs.Common.{List, Bool, filter, sym, ap, ◌∙◌, Vec, Global}
use Rattle.std.proofs.lemmas.List.{take_all}
use Rattle.dft_netlist.specs.declared.ids.InstanceId.{InstanceId}
use Rattle.dft_logic.specs.Circuit.{flag_at}
use Rattle.dft_seek.proofs.Chosen.{chosen_push, chosen_skip}
use Rattle.dft_seek.proofs.cones.flagged.Goals as goal
use Rattle.dft_seek.proofs.cones.flagged.Goals.{then-flag_at+in_ok-push, else-flag_at}

pub loop-cell-preserved : goal.loop-cell-preserved
loop-cell-preserved c =
    let test : InstanceId → Bool = λ cell. flag_at c.args.flags.now cell.0 in
    elim c.if-flag_at.branch [
      | then-flag_at+in_ok-push w ↦ chosen_push test c.args.cells.now c.loop-cell.cell-index (record { 0 = 0 }) c.loop-cell.left.items c.if-flag_at.left.items c.loop-cell-test.true
          (sym c.flag_at.ensures ∙ w.if-flag_at.true) (ap (λ (v : Vec InstanceId Global). v.items) w.left-is ∙ w.in_ok-push.ensures.items) c.loop-cell.invariant
      | else-flag_at w ↦ chosen_skip test c.args.cells.now c.loop-cell.cell-index (record { 0 = 0 }) c.loop-cell.left.items c.if-flag_at.left.items c.loop-cell-test.true
          (sym c.flag_at.ensures ∙ w.if-flag_at.false) (ap (λ (v : Vec InstanceId Global). v.items) w.left-is) c.loop-cell.invariant
    ]

pub returns : goal.returns
returns c = c.loop-cell.invariant ∙ ap (λ (xs : List InstanceId). filter (λ cell. flag_at c.args.flags.now cell.0) xs) (take_all c.loop-cell.cell-index c.args.cells.now c.loop-cell-test.false)
