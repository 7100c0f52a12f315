use Rattle.std.proofs.Common.{◌≡◌, ◌++◌, drop}
use Rattle.dft_edt.specs.RingRecipe.{injector_nets}
use Rattle.dft_edt.proofs.stages.push_injectors.Given as goal

abbrev pub invariant-loop-injector : goal.invariant-loop-injector
invariant-loop-injector l = l.terms.items ++ injector_nets (drop l.injector-index l.injectors) l.channels l.stage ≡ l.fn.terms.items ++ injector_nets l.injectors l.channels l.stage
