-- The net of a signal is one of the design.
use Rattle.std.proofs.Common.{◌∙◌, arith}
use Rattle.std.proofs.lemmas.Option.{slice_get-get_or}
use Rattle.dft_fault_lanes.proofs.marking.mark_signal.Goals as goal

pub returns-clause-here : goal.returns-clause-here
returns-clause-here c = λ bit is.
    c.mark_if.ensures.here bit (c.printed.ensures ∙ is)
    (c.requires.nets.live c.args.signal _ (slice_get-get_or c.args.nets.now c.args.signal (record { 0 = 0 }) (omega (arith, c.requires.signal, c.requires.acts))))
