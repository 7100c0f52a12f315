use Rattle.std.proofs.Common.{ap, ◌∙◌}
use Rattle.std.specs.Cow.{cow_slice_items}
use Rattle.dft_verilog_draft.specs.TakenNames.{meaning_in}
use Rattle.dft_verilog_draft.proofs.TakenNameLemmas.{meaning_in-map}
use Rattle.dft_verilog_draft.proofs.taken_names.TakenNames.meaning.Goals as goal

pub returns : goal.returns
returns c =
    c.copied.ensures ∙ c.get.ensures.value ∙ meaning_in-map (λ k. cow_slice_items k) c.args.word.now c.self.inside.meanings.entries
    ∙ ap (λ es. meaning_in es c.args.word.now) c.self.view_is
