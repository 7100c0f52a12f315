-- One cell more.
use Rattle.std.proofs.Common.{◌∙◌, ap, slice_get}
use Rattle.dft_expect.specs.Loaded.{or_unknown}
use Rattle.dft_expect.proofs.ReadLemmas.{values_more}
use Rattle.dft_expect.proofs.reading.cells_loaded.Goals as goal

pub loop-number-preserved : goal.loop-number-preserved
loop-number-preserved c =
    values_more (λ number. or_unknown (slice_get c.args.loaded.now number)) c.loop-number.cells.items c.push.new.self.items c.loop-number.number c.or_unknown.result c.loop-number.invariant c.in_ok-push.ensures.items (c.or_unknown.ensures ∙ ap or_unknown c.bit_at.ensures)
