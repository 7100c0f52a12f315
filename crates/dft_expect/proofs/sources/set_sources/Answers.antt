-- All nets, and then the ports that have bits.
use Rattle.dft_evaluator.specs.Evaluations.{value_at}
use Rattle.dft_expect.proofs.SourceLemmas.{set_whole}
use Rattle.dft_expect.proofs.sources.set_sources.Goals as goal

pub returns-clause-each : goal.returns-clause-each
returns-clause-each c = λ p pattern at net less.
    set_whole c.args.settings.now pattern p net (value_at c.args.evaluator.now p net) (value_at c.set_all.new.evaluator p net) (value_at c.set_given.new.evaluator p net) (c.set_all.ensures.each p pattern at net less)
    (c.set_given.ensures.each p pattern at net)
