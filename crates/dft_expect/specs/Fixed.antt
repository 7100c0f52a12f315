-- What captures go by that is the same for all patterns.
use Rattle.std.specs.Prelude.{◌≡◌}
use Rattle.dft_expect.specs.declared.fixed.Fixed.{Fixed}
use Rattle.dft_expect.specs.Captures.{output_bits}
use Rattle.dft_expect.specs.Capturing.{Capturing, CanCapture, IsPrepared, cells_in}
use Rattle.dft_expect.specs.Reads.{AreReads, any_falls}

-- the design and the configuration
abbrev pub capturing_in : Fixed → Capturing
capturing_in f = record { design = f.design.now; config = f.config.now }

-- it was found for them, and they can capture
pub record IsFixed (f : Fixed) : Type 0 where
  pub can : CanCapture f.design.now f.config.now
  pub prepared : IsPrepared f.design.now f.config.now f.settings.now
  pub reads : AreReads f.design.now (cells_in f.design.now f.config.now) f.reads.now
  pub falls : f.falls ≡ any_falls f.reads.now
  pub outputs : f.outputs.now ≡ output_bits f.design.now.ports
