-- One pattern more.
use Rattle.std.proofs.Common.{get_or, arith}
use Rattle.std.proofs.lemmas.Option.{slice_get_within, slice_get-get_or}
use Rattle.dft_expect.proofs.SourceLemmas.{given_more}
use Rattle.dft_expect.proofs.sources.set_given.Goals as goal

pub loop-place-preserved : goal.loop-place-preserved
loop-place-preserved c =
    let here = get_or c.args.patterns.now c.loop-place.place c.index-patterns-place.result in
    given_more c.args.settings.now c.args.patterns.now c.loop-place.place here c.args.evaluator.now c.loop-place.evaluator c.set_ports.new.evaluator c.loop-place.invariant
    (slice_get-get_or c.args.patterns.now c.loop-place.place c.index-patterns-place.result c.loop-place-test.true) c.set_ports.ensures.same (rw c.as_slice.ensures at c.set_ports.ensures.set)

pub returns-clause-each : goal.returns-clause-each
returns-clause-each c = λ p pattern at net.
    c.loop-place.invariant.each p pattern (omega (arith, slice_get_within c.args.patterns.now p pattern at, c.loop-place-test.false)) at net
