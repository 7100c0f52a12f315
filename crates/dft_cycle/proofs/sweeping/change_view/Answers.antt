-- Each net that is not marked has its driver's value.
use Rattle.std.proofs.Common.{◌∙◌, ap}
use Rattle.dft_logic.specs.Circuit.{Circuit}
use Rattle.dft_takings.specs.Views.{IsGiven}
use Rattle.dft_logic.specs.Tables.{list_at}
use Rattle.dft_cycle.proofs.Sweepings.{both_refreshed}
use Rattle.dft_cycle.proofs.sweeping.change_view.Goals as goal

pub sweep-requires-clause-given : goal.sweep-requires-clause-given
sweep-requires-clause-given c =
    let x = c.args.circuit.now in
    let v = c.args.view.now in
    both_refreshed c.args.marked.now c.refresh-left.new.marked c.refresh-entered.new.marked c.list_of.result.now c.list_of-2.result.now _ _
    (IsGiven x v c.args.values.now) (IsGiven x v c.refresh-left.new.values) (IsGiven x v c.refresh-entered.new.values)
    (c.list_of.ensures ∙ ap (λ (m : Circuit). list_at m.leaves c.args.last.0) c.circuit.view_is) (c.list_of-2.ensures ∙ ap (λ (m : Circuit). list_at m.leaves v.domain.0) c.circuit.view_is)
    c.requires.near c.refresh-left.ensures.given c.refresh-entered.ensures.given

pub returns-else-entered-clause-given : goal.returns-else-entered-clause-given
returns-else-entered-clause-given c = λ k.
    (let x = c.args.circuit.now in
    let v = c.args.view.now in
    both_refreshed c.args.marked.now c.refresh-left.new.marked c.refresh-entered.new.marked c.list_of.result.now c.list_of-2.result.now _ _
    (IsGiven x v c.args.values.now) (IsGiven x v c.refresh-left.new.values) (IsGiven x v c.refresh-entered.new.values)
    (c.list_of.ensures ∙ ap (λ (m : Circuit). list_at m.leaves c.args.last.0) c.circuit.view_is) (c.list_of-2.ensures ∙ ap (λ (m : Circuit). list_at m.leaves v.domain.0) c.circuit.view_is)
    c.requires.near c.refresh-left.ensures.given c.refresh-entered.ensures.given k
    (c.refresh-entered.ensures.none c.if-entered.false k (c.refresh-left.ensures.none c.if-left.false k (c.requires.clear k))))
