use Rattle.dft_config.proofs.LoadExampleLemmas.{rising_heads_hold, falling_head_holds}
use Rattle.dft_config.proofs.laws.worked_loads.Goals as goal

pub returns : goal.returns
returns c = record { rising = rising_heads_hold; falling = falling_head_holds }
