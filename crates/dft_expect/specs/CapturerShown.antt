-- What a `Capturer` shows, and what holds of it.
use Rattle.std.specs.Prelude.{◌≡◌}
use Rattle.dft_evaluator.specs.Evaluations.{IsFor}
use Rattle.dft_expect.specs.declared.capturer.Capturer.TheInside.{Inside}
use Rattle.dft_expect.specs.Captures.{output_bits}
use Rattle.dft_expect.specs.Capturing.{Capturing, CanCapture, IsPrepared, cells_in}
use Rattle.dft_expect.specs.Reads.{AreReads, any_falls}

abbrev pub capturing_of : Inside → Capturing
capturing_of c = record { design = c.design.now; config = c.config.now }

pub record IsCapturer (c : Inside) : Type 0 where
  pub can : CanCapture c.design.now c.config.now
  pub evaluator : IsFor c.design.now c.evaluator
  pub prepared : IsPrepared c.design.now c.config.now c.settings.items
  pub reads : AreReads c.design.now (cells_in c.design.now c.config.now) c.reads.items
  pub falls : c.falls ≡ any_falls c.reads.items
  pub outputs : c.outputs.items ≡ output_bits c.design.now.ports
