-- What the sizes from here on give, all of them give.
use Rattle.std.proofs.Common.{drop, Option}
use Rattle.dft_decompressor.specs.declared.fits.Fitting.{Fitting}
use Rattle.dft_decompressor.specs.Fits.{FirstFit}
use Rattle.dft_decompressor.proofs.fits.fit.Given as goal

abbrev pub invariant-loop-size : goal.invariant-loop-size
invariant-loop-size l = (found : Option Fitting) → FirstFit l.need l.chains (drop l.size-index l.sizes) found → FirstFit l.need l.chains l.sizes found
