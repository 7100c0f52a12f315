-- Load equations worked by hand, each by running the ring.
use Rattle.std.proofs.Common.{refl}
use Rattle.dft_config.specs.Ring.{step, state_after}
use Rattle.dft_config.specs.Loads.{reaches, delay}
use Rattle.dft_config.specs.LoadExamples.{RisingHeads, FallingHead}

pub rising_heads_hold : RisingHeads
unfolding step state_after reaches delay
rising_heads_hold = record { first = refl; second = refl; third = refl; other_first = refl; other_second = refl }

pub falling_head_holds : FallingHead
unfolding step state_after reaches delay
falling_head_holds = record { first = refl; second = refl; third = refl }
