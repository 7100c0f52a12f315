use Rattle.std.proofs.Common.{List, refl, ap, ◌∙◌}
use Rattle.std.proofs.lemmas.List.{map-append}
use Rattle.std.specs.Cow.{cow_slice_items}
use Rattle.std.specs.Str.{bytes_eq}
use Rattle.indexmap.proofs.CallerLemmas.{insert_entry-new}
use Rattle.dft_numbered.specs.Numbers.{Entry, look_up}
use Rattle.dft_numbered.proofs.NumberLemmas.{look_up-map}
use Rattle.dft_numbered.proofs.numbered.Numbered.add.Goals as goal

pub returns : goal.returns
returns c =
    let m = c.self.inside.numbers in
    let none = look_up-map (λ k. cow_slice_items k) c.args.name.now m.entries ∙ ap (λ (es : List Entry). look_up es c.args.name.now) c.self.view_is ∙ c.requires in
    let added = c.in_ok-insert.ensures.entries ∙ insert_entry-new (λ x y. bytes_eq (cow_slice_items x) (cow_slice_items y)) m _ c.args.number none in
    rw (added, map-append {B = Entry} (λ e. (cow_slice_items e.0, e.1)) m.entries _, c.self.view_is) refl
