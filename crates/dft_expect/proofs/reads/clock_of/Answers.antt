-- The clock of the pin's source.
use Rattle.std.proofs.Common.{◌∙◌, ap}
use Rattle.dft_behavior.specs.Roots.{shown_clock}
use Rattle.dft_behavior.proofs.RootTables.{clock_in_is}
use Rattle.dft_expect.proofs.reads.clock_of.Goals as goal

pub returns-in-Some : goal.returns-in-Some
returns-in-Some c = λ n are. rw c.in-Some.is (ap shown_clock c.clock_in.ensures ∙ clock_in_is n c.args.roots.now are 0 0 c.in-Some.signal)
