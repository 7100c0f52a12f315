use Rattle.dft_configure.specs.Roots.{open_clock}
use Rattle.dft_configure.proofs.ChoiceLemmas.{pushed_number}
use Rattle.dft_configure.proofs.opening.open_clocks.Goals as goal

pub loop-number-preserved : goal.loop-number-preserved
loop-number-preserved c = pushed_number (open_clock c.args.design.now) c.loop-number.number c.loop-number.clocks.items c.push.new.self.items c.open_clock.result c.in_ok-push.ensures.items c.open_clock.ensures c.loop-number.invariant
