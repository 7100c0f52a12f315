-- Past the end there is no list.
use Rattle.std.proofs.Common.{ℕ, List, [], ◌≤◌, ◌∙◌, length, sym, ap, get_or, arith}
use Rattle.dft_logic.proofs.PackedLemmas.{none_past}
use Rattle.dft_logic.proofs.packed.Table.at.Goals as goal

pub returns-else-place-len : goal.returns-else-place-len
returns-else-place-len c =
    let t = c.self.inside in
    let past : length t.ends.items ≤ c.args.place = (let e = c.len.ensures ∙ t.ends.ok.0 in let f = c.if-place-len.false in omega arith) in
    sym (ap (λ (l : List (List ℕ)). get_or l c.args.place []) (sym c.self.view_is) ∙ none_past 0 t.ends.items t.numbers.items c.args.place past)
