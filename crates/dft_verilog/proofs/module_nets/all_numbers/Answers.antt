use Rattle.std.proofs.Common.{◌≡◌, ◌∙◌, ◌+◌, ◌<◌, ◌++◌, ◌∷◌, [], List, Option, length, drop, get_or, None, unwrap_or, sym, ap, subst, arith}
use Rattle.std.proofs.lemmas.List.{drop_more, drop_all, append-nil, length-drop}
use Rattle.dft_netlist.specs.declared.ids.NetId.{NetId}
use Rattle.dft_verilog.specs.FinalNets.{all_numbered}
use Rattle.dft_verilog.proofs.SaidPartLemmas.{NumbersToGive, NumbersToGive-more}
use Rattle.dft_verilog.proofs.module_nets.all_numbers.Goals as goal

pub next_behind-next-requires : goal.next_behind-next-requires
next_behind-next-requires c = omega (arith, c.loop-number.invariant.few, length-drop c.loop-number.number-index c.args.numbers.now)

pub loop-number-preserved : goal.loop-number-preserved
loop-number-preserved c =
    let numbers : List (Option NetId) = c.args.numbers.now in
    let index = c.loop-number.number-index in
    let number = get_or numbers index None in
    let next = c.loop-number.next in
    let finals : List NetId = c.loop-number.finals.items in
    let lt : index < length numbers = omega arith in
    let pushed : c.push.new.self.items ≡ finals ++ unwrap_or number (record { 0 = next }) ∷ [] =
    c.in_ok-push.ensures.items ∙ ap (λ (n : NetId). finals ++ n ∷ []) c.number_or.ensures in
    subst (λ n. NumbersToGive numbers (drop (index + 1) numbers) c.args.first n c.push.new.self.items) (sym c.next_behind-next.ensures)
    (NumbersToGive-more numbers (drop (index + 1) numbers) number c.args.first next finals c.push.new.self.items pushed
    (subst (λ (ns : List (Option NetId)). NumbersToGive numbers ns c.args.first next finals) (drop_more numbers index None lt) c.loop-number.invariant))

pub returns : goal.returns
returns c =
    let none : drop c.loop-number.number-index c.args.numbers.now ≡ _ = drop_all c.loop-number.number-index c.args.numbers.now (omega arith) in
    sym (append-nil c.loop-number.finals.items) ∙ sym (ap (λ (ns : List (Option NetId)). c.loop-number.finals.items ++ all_numbered c.loop-number.next ns) none) ∙ c.loop-number.invariant.rest
