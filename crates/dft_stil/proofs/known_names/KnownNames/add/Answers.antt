use Rattle.std.proofs.Common.{ap, ◌∙◌, cond, ◌++◌, ◌∷◌, [], refl}
use Rattle.std.proofs.lemmas.List.{map-append}
use Rattle.dft_stil_text.specs.SignalGroups.{number_of}
use Rattle.dft_stil_text.proofs.KnownNameLemmas.{number_of-none}
use Rattle.dft_stil.proofs.known_names.KnownNames.add.Goals as goal

pub returns-clause-ok : goal.returns-clause-ok
returns-clause-ok c =
    let ks = c.self.inside.names.keys in
    let word = c.args.word in
    let fresh = number_of-none (λ k. k.items) word.items ks (ap (λ ks. number_of ks word.items) c.self.view_is ∙ c.requires) in
    let added = c.in_ok-insert.ensures.keys ∙ ap (λ t. cond t ks (ks ++ word ∷ [])) fresh in
    rw (added, map-append, c.self.view_is) refl
