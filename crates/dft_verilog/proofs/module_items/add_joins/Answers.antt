use Rattle.std.proofs.Common.{◌≡◌, ◌∙◌, ◌+◌, ◌<◌, List, drop, length, map, ap, sym, arith}
use Rattle.std.proofs.lemmas.List.{drop_more, drop_all}
use Rattle.dft_netlist.specs.declared.instance.Join.{Join}
use Rattle.dft_modules.specs.ModuleTexts.{join_said}
use Rattle.dft_verilog.specs.SaidParts.{net_or_first, with_items}
use Rattle.dft_verilog.proofs.SaidPartLemmas.{item_ahead, with_items-none}
use Rattle.dft_verilog.proofs.module_items.add_joins.Goals as goal

pub loop-one-preserved : goal.loop-one-preserved
loop-one-preserved c =
    let joins : List Join = c.args.joins.now in
    let index = c.loop-one.one-index in
    let lt : index < length joins = omega arith in
    item_ahead c.join.result _ (map (join_said (net_or_first c.args.finals.now)) (drop (index + 1) joins)) c.loop-one.made c.add_item.new.self c.join.ensures c.in_ok-add_item.ensures.ok
    ∙ sym (ap (λ (js : List Join). with_items (map (join_said (net_or_first c.args.finals.now)) js) c.loop-one.made) (drop_more joins index _ lt))
    ∙ c.loop-one.invariant

pub returns : goal.returns
returns c =
    let none : drop c.loop-one.one-index c.args.joins.now ≡ _ = drop_all c.loop-one.one-index c.args.joins.now (omega arith) in
    sym (with_items-none c.loop-one.made) ∙ sym (ap (λ (js : List Join). with_items (map (join_said (net_or_first c.args.finals.now)) js) c.loop-one.made) none) ∙ c.loop-one.invariant
