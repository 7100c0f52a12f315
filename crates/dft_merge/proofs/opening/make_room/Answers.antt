use Rattle.std.proofs.Common.{◌≤◌, ◌∙◌, ap, length, arith}
use Rattle.dft_equations.specs.LoadRows.{LoadRows}
use Rattle.dft_merge.proofs.SlotLemmas.{oldest_last}
use Rattle.dft_merge.proofs.opening.make_room.Goals as goal

pub returns-in_ok-push-clause-ok : goal.returns-in_ok-push-clause-ok
returns-in_ok-push-clause-ok c =
    let size = c.args.slots.now.ok.0 in
    record {
      slot = c.in_ok-blank.field-0;
      columns = c.in_ok-blank.ensures ∙ c.columns.ensures ∙ ap (λ (r : LoadRows). r.columns) c.equations.ensures;
      more = λ less. c.in_ok-push.ensures.items;
      same = λ full. absurd (omega arith);
    }

pub returns-else-len-window-clause-ok : goal.returns-else-len-window-clause-ok
returns-else-len-window-clause-ok c =
    let size = c.args.slots.now.ok.0 in
    let oldest = oldest_last c.args.slots.now.items (let some : 1 ≤ length c.args.slots.now.items = omega arith in some) in
    record {
      slot = oldest.0;
      columns = c.requires.columns 0 oldest.0 oldest.1.0;
      more = λ less. absurd (omega arith);
      same = λ full. c.rotate_left.ensures.items ∙ oldest.1.1;
    }
