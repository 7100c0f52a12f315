-- Its pins.
use Rattle.std.proofs.Common.{◌∙◌, ap}
use Rattle.dft_expect.specs.Reads.{clock_at, or_unconnected}
use Rattle.dft_expect.proofs.ReadLemmas.{read_made}
use Rattle.dft_expect.proofs.reads.read_of.Goals as goal

pub returns : goal.returns
returns c =
    read_made c.args.design.now c.args.cell.0 (record { clock = c.clock_of-clock.result; input = c.or_unconnected-input.result }) (c.clock_of-clock.ensures c.args.design.now c.requires ∙ ap (clock_at c.args.design.now) c.signal.ensures.signal)
    (c.or_unconnected-input.ensures ∙ ap or_unconnected c.signal-2.ensures.signal)
