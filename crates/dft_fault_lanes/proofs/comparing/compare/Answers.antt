-- The bits of one signal more are compared.
use Rattle.std.proofs.Common.{ℕ, List, Option, ◌+◌, ◌<◌, ◌≡◌, ◌∷◌, ◌∙◌, sym, subst, ap, length, drop, drop-cons, add-one, get_or, arith}
use Rattle.std.proofs.lemmas.List.{length-map}
use Rattle.dft_lanes.specs.declared.wide.Wide.{Wide}
use Rattle.dft_netlist.specs.declared.ids.NetId.{NetId}
use Rattle.dft_netlist.specs.Orders.{numbers_of}
use Rattle.dft_patterns.specs.declared.act.Act.TheVariants.{Unset}
use Rattle.dft_replay.proofs.VectorLemmas.{number_of}
use Rattle.dft_grade.specs.declared.found.Grade.{Grade}
use Rattle.dft_grade.specs.declared.found.Grade.TheVariants.{Detected}
use Rattle.dft_evaluator.specs.Wides.{wide_at}
use Rattle.dft_fault_lanes.specs.Compares.{AreMarked, differs_in}
use Rattle.dft_fault_lanes.proofs.SignalLemmas.{SoFar, so_far_skips, so_far_more}
use Rattle.dft_fault_lanes.proofs.comparing.compare.Goals.{in-Some, in_default}
use Rattle.dft_fault_lanes.proofs.comparing.compare.Goals as goal

pub loop-signal-preserved : goal.loop-signal-preserved
loop-signal-preserved c =
    let nets : List ℕ = numbers_of c.args.nets.now in
    let acts = c.args.acts.now in
    let i : ℕ = c.loop-signal.signal in
    let long = length-map c.args.nets.now (λ (k : NetId). k.0) in
    let less : i < length nets = omega (arith, c.loop-signal-test.true, c.requires.acts, long) in
    let first : drop i nets ≡ get_or nets i 0 ∷ drop (i + 1) nets = rw (add-one) (drop-cons nets i 0 less) in
    let second : drop i acts ≡ get_or acts i Unset ∷ drop (i + 1) acts = rw (add-one) (drop-cons acts i Unset c.loop-signal-test.true) in
    let S : Wide → List (Option Grade) → Type 0 = λ w f. SoFar c.args.wides.now c.args.vector nets acts c.args.live.now c.args.found.now w f (i + 1) in
    elim c.match-printed.branch [
      | in-Some w ↦ (let M : Wide → Type 0 = λ v. AreMarked (Detected c.args.vector i) (differs_in w.in-Some.printed v c.loop-signal.live) c.loop-signal.live c.loop-signal.found w.compare_bit.new.live w.compare_bit.new.found in
          let seen : w.wide_at-wide.result ≡ wide_at c.args.wides.now (get_or nets i 0) = w.wide_at-wide.ensures ∙ ap (wide_at c.args.wides.now) (number_of c.args.nets.now i) in
          subst (λ (f : List (Option Grade)). S c.match-printed.live f) (sym w.found-is) (subst (λ (v : Wide). S v w.compare_bit.new.found) (sym w.live-is)
          (so_far_more c.args.wides.now c.args.vector nets acts c.args.live.now c.args.found.now c.loop-signal.live c.loop-signal.found w.compare_bit.new.live w.compare_bit.new.found i (get_or nets i 0) (get_or acts i Unset) w.in-Some.printed
          first second (sym c.printed.ensures ∙ w.in-Some.is) w.compare_bit.ensures.live w.compare_bit.auto.found (subst M seen w.compare_bit.ensures.marked) c.loop-signal.invariant)))
      | in_default w ↦ subst (λ (f : List (Option Grade)). S c.match-printed.live f) (sym w.found-is) (subst (λ (v : Wide). S v c.loop-signal.found) (sym w.live-is)
          (so_far_skips c.args.wides.now c.args.vector nets acts c.args.live.now c.args.found.now c.loop-signal.live c.loop-signal.found i (get_or nets i 0) (get_or acts i Unset) first second (sym c.printed.ensures ∙ w.in_default.is) c.loop-signal.invariant))
    ]
