use Rattle.std.proofs.Common.{◌∙◌, refl, subst, sym}
use Rattle.dft_decompressor.specs.Rings.{AreInjectors}
use Rattle.dft_configuring.proofs.rings.ring_of.Goals as goal

pub returns : goal.returns
returns c =
    λ chains fits. record {
      fits = fits;
      channels = refl;
      taps = c.from_vec.ensures ∙ c.in_ok-taps.ensures;
      injectors = subst (AreInjectors c.args.fitting.stages c.args.channels) (sym c.from_vec-2.ensures) c.in_ok-injectors.ensures;
    }
