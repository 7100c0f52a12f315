-- Where the net is marked, and where it is not.
use Rattle.std.proofs.Common.{ℕ, List, subst, sym, ◌∙◌}
use Rattle.dft_seek.specs.Marks.{Raises, steps_at}
use Rattle.dft_seek.proofs.MarkLemmas.{draw_no, draw_yes}
use Rattle.dft_seek.proofs.marking.draw_from.Goals as goal

pub returns-then-not-flag_at : goal.returns-then-not-flag_at
returns-then-not-flag_at c = draw_no (steps_at c.args.paths.now.steps.now) c.args.net.0 c.args.marked.now (sym c.flag_at.ensures ∙ c.if-not-flag_at.true)

pub returns : goal.returns
returns c =
    draw_yes (steps_at c.args.paths.now.steps.now) c.args.net.0 c.args.marked.now c.raise_all.new.marked c.raise_all.result (sym c.flag_at.ensures ∙ c.if-not-flag_at.false)
    (subst (λ (nets : List ℕ). Raises c.args.marked.now c.raise_all.new.marked nets c.raise_all.result) c.steps.ensures c.raise_all.ensures)
