use Rattle.std.proofs.Common.{ap, ◌∙◌, refl}
use Rattle.std.specs.Str.{bytes_eq}
use Rattle.std.specs.Cow.{cow_slice_items}
use Rattle.std.proofs.lemmas.List.{map-append}
use Rattle.indexmap.proofs.CallerLemmas.{insert_entry-new}
use Rattle.dft_verilog_draft.specs.TakenNames.{meaning_in}
use Rattle.dft_verilog_draft.proofs.TakenNameLemmas.{meaning_in-map}
use Rattle.dft_verilog_draft.proofs.taken_names.TakenNames.take.Goals as goal

pub returns-clause-ok : goal.returns-clause-ok
returns-clause-ok c =
    let m = c.self.inside.meanings in
    let key = c.into_bytes.result in
    let none = meaning_in-map (λ k. cow_slice_items k) (cow_slice_items key) m.entries ∙ ap (λ es. meaning_in es (cow_slice_items key)) c.self.view_is ∙ ap (meaning_in c.args.self.now) c.into_bytes.ensures ∙ c.requires in
    let added = insert_entry-new (λ x y. bytes_eq (cow_slice_items x) (cow_slice_items y)) m key c.args.meaning none in
    rw (c.in_ok-insert.ensures.entries, added, map-append, c.self.view_is, c.into_bytes.ensures) refl
