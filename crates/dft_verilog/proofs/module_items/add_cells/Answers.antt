use Rattle.std.proofs.Common.{◌≡◌, ◌∙◌, ◌+◌, ◌<◌, ◌∷◌, List, drop, length, map, ap, sym, arith}
use Rattle.std.proofs.lemmas.List.{drop_more, drop_all}
use Rattle.dft_netlist.specs.declared.instance.Instance.{Instance}
use Rattle.dft_modules.specs.ModuleTexts.{cell_said}
use Rattle.dft_verilog.specs.SaidParts.{net_or_first, with_items}
use Rattle.dft_verilog.proofs.SaidPartLemmas.{item_ahead, with_items-none}
use Rattle.dft_verilog.proofs.module_items.add_cells.Goals as goal

pub loop-instance-preserved : goal.loop-instance-preserved
loop-instance-preserved c =
    let all : List Instance = c.args.instances.now in
    let index = c.loop-instance.instance-index in
    let i : Instance = c.instance-item.result in
    let lt : index < length all = omega arith in
    let ahead : drop index all ≡ i ∷ drop (index + 1) all = drop_more all index i lt ∙ ap (λ (x : Instance). x ∷ drop (index + 1) all) (sym c.instance-item.is) in
    item_ahead c.in_ok-item.item (cell_said (net_or_first c.args.finals.now) i) (map (cell_said (net_or_first c.args.finals.now)) (drop (index + 1) all)) c.loop-instance.made c.add_item.new.self c.in_ok-item.ensures c.in_ok-add_item.ensures.ok
    ∙ sym (ap (λ (is : List Instance). with_items (map (cell_said (net_or_first c.args.finals.now)) is) c.loop-instance.made) ahead)
    ∙ c.loop-instance.invariant

pub returns : goal.returns
returns c =
    let none : drop c.loop-instance.instance-index c.args.instances.now ≡ _ = drop_all c.loop-instance.instance-index c.args.instances.now (omega arith) in
    sym (with_items-none c.loop-instance.made) ∙ sym (ap (λ (is : List Instance). with_items (map (cell_said (net_or_first c.args.finals.now)) is) c.loop-instance.made) none) ∙ c.loop-instance.invariant
