use Rattle.std.proofs.Common.{ap, ◌∙◌}
use Rattle.dft_stil_text.specs.SignalGroups.{number_of}
use Rattle.dft_stil_text.proofs.KnownNameLemmas.{number_of-map}
use Rattle.dft_stil.proofs.known_names.KnownNames.number.Goals as goal

pub returns-clause-value : goal.returns-clause-value
returns-clause-value c = c.get_index_of.ensures.index ∙ number_of-map (λ k. k.items) c.args.word.now c.self.inside.names.keys ∙ ap (λ ks. number_of ks c.args.word.now) c.self.view_is
