-- One more.
use Rattle.std.proofs.Common.{List, Bool, filter, sym, ap, ◌∙◌, Vec, Global}
use Rattle.std.proofs.lemmas.List.{take_all}
use Rattle.dft_netlist.specs.declared.ids.InstanceId.{InstanceId}
use Rattle.std.specs.List.{list_any}
use Rattle.dft_logic.specs.Circuit.{flag_at}
use Rattle.dft_seek.specs.Pins.{pins_at, taken_by}
use Rattle.dft_seek.proofs.Chosen.{chosen_push, chosen_skip}
use Rattle.dft_seek.proofs.cones.taking_cells.Goals as goal
use Rattle.dft_seek.proofs.cones.taking_cells.Goals.{then-takes_marked+in_ok-push, else-takes_marked}

pub loop-cell-preserved : goal.loop-cell-preserved
loop-cell-preserved c =
    let test : InstanceId → Bool = λ cell. list_any (flag_at c.args.marked.now) (taken_by (pins_at c.args.pins.now cell.0)) in
    elim c.if-takes_marked.branch [
      | then-takes_marked+in_ok-push w ↦ chosen_push test c.args.cells.now c.loop-cell.cell-index (record { 0 = 0 }) c.loop-cell.left.items c.if-takes_marked.left.items c.loop-cell-test.true
          (sym c.takes_marked.ensures ∙ w.if-takes_marked.true) (ap (λ (v : Vec InstanceId Global). v.items) w.left-is ∙ w.in_ok-push.ensures.items) c.loop-cell.invariant
      | else-takes_marked w ↦ chosen_skip test c.args.cells.now c.loop-cell.cell-index (record { 0 = 0 }) c.loop-cell.left.items c.if-takes_marked.left.items c.loop-cell-test.true
          (sym c.takes_marked.ensures ∙ w.if-takes_marked.false) (ap (λ (v : Vec InstanceId Global). v.items) w.left-is) c.loop-cell.invariant
    ]

pub returns : goal.returns
returns c = c.loop-cell.invariant ∙ ap (λ (xs : List InstanceId). filter (λ cell. list_any (flag_at c.args.marked.now) (taken_by (pins_at c.args.pins.now cell.0))) xs) (take_all c.loop-cell.cell-index c.args.cells.now c.loop-cell-test.false)
