-- What is set at the sources is what the captures have there.
use Rattle.std.proofs.Common.{◌≡◌, ◌<◌, arith, length}
use Rattle.std.proofs.lemmas.Option.{slice_get_within}
use Rattle.dft_expect.specs.Captures.{config_ports}
use Rattle.dft_evaluator.specs.Evaluations.{value_at}
use Rattle.dft_expect.specs.Captures.{bit_of_port}
use Rattle.dft_expect.proofs.GivenLemmas.{are_given, sources_of}
use Rattle.dft_expect.proofs.SourceLemmas.{same_for, set_all_nets}
use Rattle.dft_expect.proofs.sources.settle_all.Goals as goal

pub returns-clause-settled : goal.returns-clause-settled
returns-clause-settled c = λ n config can prepared is p pattern at.
    (let old = c.args.evaluator.now in
    let set = c.set_sources.new.evaluator in
    let settings = c.args.settings.now in
    let merged = pattern.merged.now in
    let loaded = pattern.loaded.now in
    let less : p < 512 = omega (arith, slice_get_within c.args.patterns.now p pattern at, c.requires.patterns) in
    let nets : length settings ≡ length set.wides = omega (arith, c.requires.nets, c.set_sources.ensures.same.nets) in
    let values = value_at c.settle.new.self p in
    c.settle.ensures.values n (config_ports n config) (sources_of n config merged loaded values) p (same_for n old set c.set_sources.ensures.same is) less
    (are_given n config merged loaded values (value_at set p) settings can prepared
    (λ net. set_all_nets settings set p net (bit_of_port merged.ports net) loaded nets less (λ live. c.set_sources.ensures.each p pattern at net live))))
