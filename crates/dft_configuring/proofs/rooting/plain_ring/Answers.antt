use Rattle.std.proofs.Common.{◌∙◌}
use Rattle.dft_configuring.proofs.rooting.plain_ring.Goals as goal

pub returns : goal.returns
returns c =
    λ i. record {
      stages = 8;
      channels = 1;
      taps = (c.from_vec.ensures ∙ c.new.ensures.items) i;
      injectors = (c.from_vec-2.ensures ∙ c.new-2.ensures.items) i;
      phase = c.in_ok-plain_phase.ensures i;
    }
