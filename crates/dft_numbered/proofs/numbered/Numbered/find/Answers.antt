use Rattle.std.proofs.Common.{List, ap, ◌∙◌}
use Rattle.std.specs.Cow.{cow_slice_items}
use Rattle.dft_numbered.specs.Numbers.{Entry, look_up}
use Rattle.dft_numbered.proofs.NumberLemmas.{look_up-map}
use Rattle.dft_numbered.proofs.numbered.Numbered.find.Goals as goal

pub returns : goal.returns
returns c = c.copied.ensures ∙ c.get.ensures.value ∙ look_up-map (λ k. cow_slice_items k) c.args.name.now c.self.inside.numbers.entries ∙ ap (λ (es : List Entry). look_up es c.args.name.now) c.self.view_is
