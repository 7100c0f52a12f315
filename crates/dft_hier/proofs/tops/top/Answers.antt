use Rattle.std.proofs.Common.{◌≡◌, List, Bool, not, true, get_or, sym, ap, ◌∙◌}
use Rattle.std.specs.List.{count_by}
use Rattle.dft_hier.proofs.TopLemmas.{tops_count, one_top}
use Rattle.dft_hier.proofs.tops.top.Goals as goal

pub returns-then-count-ne1-clause-refused : goal.returns-then-count-ne1-clause-refused
returns-then-count-ne1-clause-refused c =
    (c.unmarked-count.ensures ∙ ap (λ (marks : List Bool). count_by not marks) c.deref.ensures.value ∙ tops_count c.args.children.now c.in_ok-marks.marks.items c.in_ok-marks.ensures, c.if-count-ne1.true)

pub returns-clause-ok : goal.returns-clause-ok
returns-clause-ok c =
    let marks : List Bool = c.in_ok-marks.marks.items in
    let same = c.deref-2.ensures.value in
    let one : count_by not marks ≡ 1 = ap (λ (xs : List Bool). count_by not xs) (sym c.deref.ensures.value) ∙ sym c.unmarked-count.ensures ∙ c.if-count-ne1.false in
    one_top c.args.children.now marks c.first_unmarked.result c.in_ok-marks.ensures (rw (← same) c.first_unmarked.ensures.live) (ap (λ (xs : List Bool). get_or xs c.first_unmarked.result true) (sym same) ∙ c.first_unmarked.ensures.unmarked) one
