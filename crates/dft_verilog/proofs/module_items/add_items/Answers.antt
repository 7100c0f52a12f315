use Rattle.std.proofs.Common.{◌≡◌, ◌∙◌, ◌+◌, ◌<◌, ◌∷◌, List, drop, length, ap, sym, subst, arith}
use Rattle.std.proofs.lemmas.List.{drop_more, drop_all}
use Rattle.dft_netlist_text.specs.Modules.{Draft}
use Rattle.dft_modules.specs.SubInstances.{DraftSub}
use Rattle.dft_modules.specs.ModuleTexts.{Numbering}
use Rattle.dft_verilog_draft.proofs.FreeLemmas.{OnOk-then}
use Rattle.dft_verilog.specs.SaidParts.{net_or_first}
use Rattle.dft_verilog.proofs.SaidPartLemmas.{ItemsToAdd, ItemsToAdd-more, ItemsToAdd-end}
use Rattle.dft_verilog.proofs.module_items.add_items.Goals as goal

pub loop-one-preserved : goal.loop-one-preserved
loop-one-preserved c =
    let d : Draft = c.args.draft.now in
    let number : Numbering = net_or_first c.args.finals.now in
    let all : List DraftSub = c.args.subs.now in
    let index = c.loop-one.one-index in
    let s : DraftSub = c.one-item.result in
    let lt : index < length all = omega arith in
    let ahead : drop index all ≡ s ∷ drop (index + 1) all = drop_more all index s lt ∙ ap (λ (x : DraftSub). x ∷ drop (index + 1) all) (sym c.one-item.is) in
    record {
      items = ItemsToAdd-more c.args.text.now number d all (drop (index + 1) all) s c.loop-one.next.join c.loop-one.next.cell c.joins.result c.cells.result c.in_ok-item.item c.args.made.now c.loop-one.made c.add_parts.new.made c.add_item.new.self
          c.joins.ensures c.cells.ensures c.in_ok-add_parts.ensures c.in_ok-item.ensures.said c.in_ok-add_item.ensures.ok
          (subst (λ (rest : List DraftSub). ItemsToAdd c.args.text.now number d all rest c.loop-one.next.join c.loop-one.next.cell c.args.made.now c.loop-one.made) ahead c.loop-one.invariant.items);
      passed = c.in_ok-item.ensures.passed;
    }

pub returns-clause-items : goal.returns-clause-items
returns-clause-items c =
    let d : Draft = c.args.draft.now in
    let number : Numbering = net_or_first c.args.finals.now in
    let all : List DraftSub = c.args.subs.now in
    let none : drop c.loop-one.one-index all ≡ _ = drop_all c.loop-one.one-index all (omega arith) in
    OnOk-then c.add_parts-2.result _ _
    (λ e. ItemsToAdd-end c.args.text.now number d all (drop c.loop-one.one-index all) c.loop-one.next.join c.loop-one.next.cell c.joins-2.result.now c.instances.result.now c.args.made.now c.loop-one.made c.add_parts-2.new.made
    c.joins-2.ensures.joins c.instances.ensures.instances none e c.loop-one.invariant.items)
    c.add_parts-2.ensures
