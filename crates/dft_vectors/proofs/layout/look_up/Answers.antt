-- The planned chains fit.
use Rattle.std.proofs.Common.{◌∙◌, ap}
use Rattle.dft_stitch.proofs.ChainLimits.{chains_count, limits}
use Rattle.dft_vectors.specs.Segments.{segments_of}
use Rattle.dft_vectors.proofs.layout.look_up.Goals as goal

pub returns-clause-layout : goal.returns-clause-layout
returns-clause-layout c =
    let p = c.args.planned.now in
    record {
      range = c.soundness.ensures.range;
      own = rw (c.design.ensures, c.config.ensures) at c.in_ok-own.ensures;
      segments = c.in_ok-segments.ensures ∙ ap segments_of c.config-2.ensures;
      chains = chains_count p.design p.config;
      cycles = (limits p.design p.config c.soundness.ensures.fits).0;
    }
