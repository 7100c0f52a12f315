-- The rows have a bit for each column.
use Rattle.std.proofs.Common.{arith, ◌*◌, ◌∙◌, ap}
use Rattle.dft_base.specs.Solutions.{bit_at}
use Rattle.dft_config.specs.declared.config.RingConfig.{RingConfig}
use Rattle.dft_equations.proofs.LoadLemmas.{rows_wide}
use Rattle.dft_equations.proofs.making.equations.Goals as goal

pub new-requires : goal.new-requires
new-requires c =
    rows_wide c.args.config.now.ring c.args.cycles _ (bit_at c.args.falling.now) c.args.lengths.now c.loop-chain.chains.items (λ t. c.from.ensures t * (c.from-2.ensures ∙ ap (λ (r : RingConfig). r.channels) c.ring.ensures) t)
    (λ chain less. c.loop-chain.invariant.each chain (omega arith))
