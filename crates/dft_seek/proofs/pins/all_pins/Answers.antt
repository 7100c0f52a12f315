-- One instance more.
use Rattle.std.proofs.Common.{ℕ, List, ◌+◌, ◌∙◌, ap, length, arith}
use Rattle.std.proofs.lemmas.List.{length_push}
use Rattle.dft_netlist.specs.declared.instance.Instance.{Instance}
use Rattle.dft_seek.specs.Pins.{ArePinsOf, no_pins}
use Rattle.dft_seek.specs.declared.pins.Pins.{Pins}
use Rattle.dft_seek.proofs.Filled.{filled_more}
use Rattle.dft_seek.proofs.PreparedLemmas.{pins_all}
use Rattle.dft_seek.proofs.pins.all_pins.Goals as goal

pub loop-number-preserved : goal.loop-number-preserved
loop-number-preserved c =
    record {
      count = ap (λ (l : List Pins). length l) c.in_ok-push.ensures.items ∙ length_push c.loop-number.pins.items c.pins_of.result ∙ ap (λ (n : ℕ). n + 1) c.loop-number.invariant.count;
      each = filled_more (ArePinsOf c.args.design.now) c.loop-number.pins.items c.push.new.self.items c.pins_of.result no_pins c.loop-number.number c.loop-number.invariant.count c.in_ok-push.ensures.items c.loop-number.invariant.each c.pins_of.ensures;
    }

pub returns : goal.returns
returns c =
    let all = ap (λ (l : List Instance). length l) c.instances-number-end.ensures.instances in
    let past = c.loop-number-test.false in
    let within = c.loop-number.auto.number-end in
    let count = c.loop-number.invariant.count in
    pins_all c.args.design.now c.loop-number.pins.items (omega (arith, all, past, within, count)) (λ i less. c.loop-number.invariant.each i (omega (arith, all, past, less)))
