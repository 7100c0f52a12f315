-- One more.
use Rattle.std.proofs.Common.{List, Bool, filter, sym, ap, ◌∙◌, Vec, Global}
use Rattle.std.proofs.lemmas.List.{take_all}
use Rattle.dft_netlist.specs.declared.ids.NetId.{NetId}
use Rattle.dft_logic.specs.Circuit.{flag_at}
use Rattle.dft_seek.proofs.Chosen.{chosen_push, chosen_skip}
use Rattle.dft_seek.proofs.cones.marked_nets.Goals as goal
use Rattle.dft_seek.proofs.cones.marked_nets.Goals.{then-flag_at+in_ok-push, else-flag_at}

pub loop-net-preserved : goal.loop-net-preserved
loop-net-preserved c =
    let test : NetId → Bool = λ net. flag_at c.args.marked.now net.0 in
    elim c.if-flag_at.branch [
      | then-flag_at+in_ok-push w ↦ chosen_push test c.args.nets.now c.loop-net.net-index (record { 0 = 0 }) c.loop-net.left.items c.if-flag_at.left.items c.loop-net-test.true
          (sym c.flag_at.ensures ∙ w.if-flag_at.true) (ap (λ (v : Vec NetId Global). v.items) w.left-is ∙ w.in_ok-push.ensures.items) c.loop-net.invariant
      | else-flag_at w ↦ chosen_skip test c.args.nets.now c.loop-net.net-index (record { 0 = 0 }) c.loop-net.left.items c.if-flag_at.left.items c.loop-net-test.true
          (sym c.flag_at.ensures ∙ w.if-flag_at.false) (ap (λ (v : Vec NetId Global). v.items) w.left-is) c.loop-net.invariant
    ]

pub returns : goal.returns
returns c = c.loop-net.invariant ∙ ap (λ (xs : List NetId). filter (λ net. flag_at c.args.marked.now net.0) xs) (take_all c.loop-net.net-index c.args.nets.now c.loop-net-test.false)
