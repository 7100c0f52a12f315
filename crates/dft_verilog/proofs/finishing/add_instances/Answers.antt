use Rattle.std.proofs.Common.{◌≡◌, ◌∙◌, ◌+◌, ◌<◌, ◌∷◌, List, drop, length, sym, ap, arith, subst}
use Rattle.std.proofs.lemmas.List.{drop_more}
use Rattle.dft_netlist.specs.declared.instance.Instance.{Instance}
use Rattle.dft_netlist_text.specs.NetlistText.{net_order, add_instances}
use Rattle.dft_verilog.specs.Built.{IsGrown}
use Rattle.dft_verilog.proofs.GrowLemmas.{InstancesAhead, InstancesAhead-here}
use Rattle.dft_verilog.proofs.finishing.add_instances.Goals as goal

pub add_instance-requires-clause-grown : goal.add_instance-requires-clause-grown
add_instance-requires-clause-grown c =
    let all : List Instance = c.instances-instance-items.result.now in
    let index = c.loop-instance.instance-index in
    let i : Instance = c.instance-item.result in
    let lt : index < length all = omega arith in
    let ahead : drop index all ≡ i ∷ drop (index + 1) all = drop_more all index i lt ∙ ap (λ (x : Instance). x ∷ drop (index + 1) all) (sym c.instance-item.is) in
    let whole : IsGrown (add_instances (net_order c.args.draft.now) all c.args.builder.now) =
    subst (λ (is : List Instance). IsGrown (add_instances (net_order c.args.draft.now) is c.args.builder.now)) (sym c.instances-instance-items.ensures.instances) c.requires.grown in
    InstancesAhead-here c.args.draft.now all i (drop (index + 1) all) c.args.builder.now c.loop-instance.builder whole
    (subst (λ (rest : List Instance). InstancesAhead c.args.draft.now all rest c.args.builder.now c.loop-instance.builder) ahead c.loop-instance.invariant)
