use Rattle.std.proofs.Common.{◌∙◌, sym, ap}
use Rattle.dft_decompressor.specs.Stamps.{stamp_of}
use Rattle.dft_decompressor.proofs.SetLemmas.{stamps_differ}
use Rattle.dft_decompressor.proofs.stamps.Stamped.is_same.Goals as goal

pub returns-then-self-stamp : goal.returns-then-self-stamp
returns-then-self-stamp c = stamps_differ c.args.self.now c.args.set.now (λ e. c.if-self-stamp.true (c.self.invariant ∙ ap stamp_of c.self.view_is ∙ e ∙ sym c.requires))
