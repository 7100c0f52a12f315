use Rattle.std.proofs.Common.{◌≤◌, ◌+◌, ◌++◌, ℕ, List, flat_map, length, take, drop, sym, ap, subst, ◌∙◌, arith}
use Rattle.dft_patterns.specs.declared.notes.Note.{Note}
use Rattle.dft_stil_out.specs.Written as form
use Rattle.dft_stil_out.proofs.NoteLemmas.{Written, one_more_vector, all_written}
use Rattle.dft_stil_out.proofs.writer.add_vectors.Goals as goal

pub loop-place-preserved : goal.loop-place-preserved
loop-place-preserved c =
    let place : ℕ = c.loop-place.place in
    let vectors = c.args.vectors.now in
    let ahead = c.loop-place.ahead.now in
    let out = c.loop-place.out.items in
    let whole = c.args.out.now.items ++ form.noted_lines c.args.count 0 vectors c.args.notes.now in
    let front = c.split_at.ensures.front ∙ ap (λ n. take n ahead) c.due.ensures.value in
    let back = c.split_at.ensures.back ∙ ap (λ n. drop n ahead) c.due.ensures.value in
    let lined = c.in_ok-add_notes.ensures ∙ ap (λ (ns : List Note). out ++ flat_map form.note_line ns) front in
    subst (λ (notes : List Note). Written c.args.count vectors whole c.add_vector.new.out.items notes (place + 1)) (sym back)
    (one_more_vector c.args.count place vectors whole out _ _ _ _ ahead c.loop-place-test.true (c.as_slice.ensures ∙ c.index-vectors-place.is) lined c.in_ok-add_vector.ensures c.loop-place.invariant)

pub returns : goal.returns
returns c =
    let far : length c.args.vectors.now ≤ c.loop-place.place = omega (arith, c.loop-place-test.false) in
    all_written c.args.count c.loop-place.place c.args.vectors.now _ c.loop-place.out.items c.loop-place.ahead.now far c.loop-place.invariant
