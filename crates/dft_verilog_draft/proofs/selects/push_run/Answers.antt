use Rattle.std.proofs.Common.{◌∙◌, ◌+◌, ◌++◌, ◌∷◌, [], List, ap}
use Rattle.dft_netlist.specs.declared.instance.Signal.{Signal}
use Rattle.dft_verilog_draft.proofs.SelectLemmas.{net_signal, nets_more}
use Rattle.dft_verilog_draft.proofs.selects.push_run.Goals as goal

pub loop-place-preserved : goal.loop-place-preserved
loop-place-preserved c =
    c.in_ok-push.ensures.ok ∙ ap (λ (xs : List Signal). xs ++ net_signal (c.args.run.first + c.loop-place.place) ∷ []) c.loop-place.invariant
    ∙ nets_more c.args.bits.now c.args.run.first c.loop-place.place
