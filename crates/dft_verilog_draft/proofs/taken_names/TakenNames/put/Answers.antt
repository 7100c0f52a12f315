use Rattle.std.proofs.Common.{◌≡◌, rules, refl, ◌∙◌, sym, ap}
use Rattle.std.specs.Str.{bytes_eq}
use Rattle.std.specs.Cow.{cow_slice_items}
use Rattle.std.proofs.lemmas.List.{map-append}
use Rattle.indexmap.specs.Entry.{map_with_value}
use Rattle.indexmap.specs.declared.map.entry.Entry.TheVariants.{Occupied, Vacant}
use Rattle.indexmap.proofs.CallerLemmas.{insert_entry-new}
use Rattle.dft_verilog_draft.specs.TakenNames.{meaning_in}
use Rattle.dft_verilog_draft.proofs.TakenNameLemmas.{meaning_in-map, insert_entry-same}
use Rattle.dft_verilog_draft.proofs.taken_names.TakenNames.put.Goals.{in-Occupied, in-Vacant}
use Rattle.dft_verilog_draft.proofs.taken_names.TakenNames.put.Goals as goal

pub returns-clause-before : goal.returns-clause-before
returns-clause-before c =
    let key = c.into_bytes.result in
    let known = meaning_in-map (λ k. cow_slice_items k) (cow_slice_items key) c.self.inside.meanings.entries ∙ ap (λ es. meaning_in es (cow_slice_items key)) c.self.view_is ∙ ap (meaning_in c.args.self.now) c.into_bytes.ensures in
    let value = c.in_ok-entry.ensures.value in
    let found = c.in_ok-entry.ensures.found in
    elim c.match-branch-2.branch [
      | in-Occupied w ↦ (let is = w.in-Occupied.is in let got = w.into_mut.ensures.value in rw w.result-is (cc))
      | in-Vacant w ↦ (rw w.result-is (sym (sym known ∙ (rw w.in-Vacant.is at found))))
    ]

pub returns-clause-names : goal.returns-clause-names
returns-clause-names c =
    let m = c.self.inside.meanings in
    let key = c.into_bytes.result in
    let value = c.in_ok-entry.ensures.value in
    let found = c.in_ok-entry.ensures.found in
    let update = c.in_ok-entry.ensures.update in
    elim c.match-branch-2.branch [
      | in-Occupied w ↦ (
          let v = w.into_mut.result.now in
          let now : c.match-branch-2.self-inside.meanings ≡ map_with_value (Occupied w.in-Occupied.entry) v = rw w.self-inside-is (search rules) in
          let written = (rw w.in-Occupied.is at update).1 v in
          let had = sym (rw w.in-Occupied.is at value) ∙ w.into_mut.ensures.value in
          let kept = insert_entry-same (λ x y. bytes_eq (cow_slice_items x) (cow_slice_items y)) m.entries key v had in
          rw (w.result-is, now, written, kept) c.self.view_is
          )
      | in-Vacant w ↦ (
          let v = w.insert.result.now in
          let now : c.match-branch-2.self-inside.meanings ≡ map_with_value (Vacant w.in-Vacant.entry) v = rw w.self-inside-is (search rules) in
          let written = (rw w.in-Vacant.is at update).1 v in
          let added = insert_entry-new (λ x y. bytes_eq (cow_slice_items x) (cow_slice_items y)) m key v (rw w.in-Vacant.is at found) in
          rw (w.result-is, now, written, added, map-append, c.self.view_is, c.into_bytes.ensures, w.insert.ensures.value) refl
          )
    ]
