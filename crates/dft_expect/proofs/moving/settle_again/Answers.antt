-- What is set at the sources is what the captures have there.
use Rattle.std.proofs.Common.{◌<◌, arith}
use Rattle.std.proofs.lemmas.Option.{slice_get_within}
use Rattle.dft_abstract.specs.Cycle.{strobe_sources}
use Rattle.dft_evaluator.specs.Evaluations.{value_at}
use Rattle.dft_expect.specs.Captures.{capture_vector, config_ports, original}
use Rattle.dft_expect.proofs.MovingLemmas.{are_again}
use Rattle.dft_expect.proofs.SourceLemmas.{same_for}
use Rattle.dft_expect.proofs.moving.settle_again.Goals as goal

pub returns-clause-settled : goal.returns-clause-settled
returns-clause-settled c = λ n config can prepared for p pattern r state next at moved settled.
    (let old = c.args.evaluator.now in
    let set = c.set_cells.new.evaluator in
    let settings = c.args.settings.now in
    let less : p < 512 = omega (arith, slice_get_within c.args.moved.now p r at, c.requires.moved) in
    let values = value_at c.settle.new.self p in
    c.settle.ensures.values n (config_ports n config) (strobe_sources (original n config) (capture_vector n config pattern.merged.now) next values) p (same_for n old set c.set_cells.ensures.same for) less
    (are_again n config pattern r can state next moved (value_at old p) values settled (value_at set p) settings prepared (λ net. c.set_cells.ensures.each p r at net)))
