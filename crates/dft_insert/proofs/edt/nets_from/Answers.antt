use Rattle.std.proofs.Common.{List, ◌+◌, ◌-◌, ◌++◌, ◌∷◌, [], sym, ap, ◌∙◌, append_assoc}
use Rattle.dft_netlist.specs.declared.ids.NetId.{NetId}
use Rattle.dft_netlist.specs.NetNumbers.{nets_from}
use Rattle.dft_insert.proofs.PinLemmas.{nets_on}
use Rattle.dft_insert.proofs.edt.nets_from.Goals as goal

pub loop-number-preserved : goal.loop-number-preserved
loop-number-preserved c =
    let first = c.args.first in
    let k = c.loop-number.number in
    let count = c.args.count in
    let so_far = c.loop-number.nets.items in
    let rest = nets_from (first + (k + 1)) (count - (k + 1)) in
    ap (λ (xs : List NetId). xs ++ rest) c.in_ok-push_net.ensures.ok
    ∙ append_assoc so_far (record { 0 = first + k } ∷ []) rest
    ∙ ap (λ (xs : List NetId). so_far ++ xs) (sym (nets_on first k count c.loop-number-test.true))
    ∙ c.loop-number.invariant
