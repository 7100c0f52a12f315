-- Where a walk goes on from a marked net, and where none does.
use Rattle.std.proofs.Common.{sym, ap, ◌∙◌}
use Rattle.std.specs.List.{list_any}
use Rattle.dft_logic.specs.Circuit.{flag_at}
use Rattle.dft_seek.specs.Marks.{steps_at}
use Rattle.dft_seek.proofs.MarkLemmas.{spread_no, spread_yes}
use Rattle.dft_seek.proofs.marking.spread_to.Goals as goal

pub returns-then-not-any_marked : goal.returns-then-not-any_marked
returns-then-not-any_marked c =
    spread_no (steps_at c.args.paths.now.steps.now) c.args.net.0 c.args.marked.now
    (ap (list_any (flag_at c.args.marked.now)) (sym c.steps.ensures) ∙ sym c.any_marked.ensures ∙ c.if-not-any_marked.true)

pub returns : goal.returns
returns c =
    spread_yes (steps_at c.args.paths.now.steps.now) c.args.net.0 c.args.marked.now c.raise.new.marked c.raise.result
    (ap (list_any (flag_at c.args.marked.now)) (sym c.steps.ensures) ∙ sym c.any_marked.ensures ∙ c.if-not-any_marked.false) c.raise.ensures
