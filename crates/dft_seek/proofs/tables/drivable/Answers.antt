-- One more.
use Rattle.std.proofs.Common.{List, Bool, filter, sym, ap, ◌∙◌, Vec, Global}
use Rattle.std.proofs.lemmas.List.{take_all}
use Rattle.dft_netlist.specs.declared.ids.NetId.{NetId}
use Rattle.std.specs.Prelude.{◌&&◌, not}
use Rattle.dft_logic.specs.Circuit.{flag_at, meaning, op_at}
use Rattle.dft_seek.specs.Steps.{is_input_of}
use Rattle.dft_seek.proofs.Chosen.{chosen_push, chosen_skip}
use Rattle.dft_seek.proofs.tables.drivable.Goals as goal
use Rattle.dft_seek.proofs.tables.drivable.Goals.{then-is_drivable+in_ok-push, else-is_drivable}

pub loop-net-preserved : goal.loop-net-preserved
loop-net-preserved c =
    let test : NetId → Bool = λ net. is_input_of (meaning (op_at c.args.ops.now net.0)) && not (flag_at c.args.resets.now net.0) in
    elim c.if-is_drivable.branch [
      | then-is_drivable+in_ok-push w ↦ chosen_push test c.args.nets.now c.loop-net.net-index (record { 0 = 0 }) c.loop-net.ports.items c.if-is_drivable.ports.items c.loop-net-test.true
          (sym c.is_drivable.ensures ∙ w.if-is_drivable.true) (ap (λ (v : Vec NetId Global). v.items) w.ports-is ∙ w.in_ok-push.ensures.items) c.loop-net.invariant
      | else-is_drivable w ↦ chosen_skip test c.args.nets.now c.loop-net.net-index (record { 0 = 0 }) c.loop-net.ports.items c.if-is_drivable.ports.items c.loop-net-test.true
          (sym c.is_drivable.ensures ∙ w.if-is_drivable.false) (ap (λ (v : Vec NetId Global). v.items) w.ports-is) c.loop-net.invariant
    ]

pub returns : goal.returns
returns c = c.loop-net.invariant ∙ ap (λ (xs : List NetId). filter (λ net. is_input_of (meaning (op_at c.args.ops.now net.0)) && not (flag_at c.args.resets.now net.0)) xs) (take_all c.loop-net.net-index c.args.nets.now c.loop-net-test.false)
