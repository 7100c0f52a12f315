use Rattle.std.proofs.Common.{◌∙◌}
use Rattle.dft_modules.specs.Modules.{Module}
use Rattle.dft_numbered.proofs.NamedLemmas.{named_next, named_all}
use Rattle.dft_hier.proofs.children.module_numbers.Goals as goal

pub loop-number-preserved : goal.loop-number-preserved
loop-number-preserved c =
    named_next (λ (x : Module). x.name) c.args.modules.now c.index-modules-number.result c.as_slice.result.now c.loop-number.number c.loop-number.numbers c.put.new.self c.loop-number-test.true c.index-modules-number.is (c.as_slice.ensures.bytes ∙ c.name.ensures) c.in_ok-put.ensures c.loop-number.invariant

pub returns : goal.returns
returns c = named_all (λ (x : Module). x.name) c.args.modules.now c.loop-number.numbers c.loop-number.number c.loop-number-test.false c.loop-number.invariant
