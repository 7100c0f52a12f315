-- One vector, or two.
use Rattle.std.proofs.Common.{◌≡◌, ◌∙◌, ◌++◌, List, ap, arith, drop, length, slice_get, sym, take}
use Rattle.std.proofs.lemmas.List.{take_at}
use Rattle.dft_evaluator.specs.Evaluations.{value_at}
use Rattle.dft_expect.specs.declared.response.Response.{Response}
use Rattle.dft_expect.proofs.CaptureLemmas.{first_ready, next_ready, singles_whole, two_whole}
use Rattle.dft_expect.proofs.pulsing.captures.Goals as goal

pub pulse-requires-clause-ready : goal.pulse-requires-clause-ready
pulse-requires-clause-ready c =
    let fixed = c.args.fixed.now in
    let i = c.requires.fixed in
    let are = c.in_ok-responses.ensures in
    rw c.deref_mut.ensures.value (record {
      count = are.count;
      each = λ p pattern r there found. first_ready fixed.design.now fixed.config.now pattern r (value_at c.settle_all.new.evaluator p) (are.each p pattern r there found)
          (c.settle_all.ensures.settled fixed.design.now fixed.config.now i.can i.prepared c.requires.design p pattern there);
    })

pub returns-then-not-any_second-clause-captures : goal.returns-then-not-any_second-clause-captures
returns-then-not-any_second-clause-captures c =
    let fixed = c.args.fixed.now in
    let are = c.in_ok-pulse.ensures.pulsed in
    let new : List Response = c.pulse.new.responses in
    let items : List Response = c.in_ok-responses.responses.items in
    let back : take c.in_ok-responses.responses.len (new ++ drop (length new) items) ≡ new =
    take_at new (drop (length new) items) c.in_ok-responses.responses.len (omega (arith, are.count, c.in_ok-responses.ensures.count, c.in_ok-responses.responses.ok.0)) in
    rw back (record {
      count = are.count;
      each = λ p pattern r there found. singles_whole fixed.design.now fixed.config.now c.args.patterns.now p pattern r (sym c.any_second.ensures ∙ c.if-not-any_second.true) there (are.each p pattern r there found).behind;
    })

pub pulse-requires-2-clause-ready : goal.pulse-requires-2-clause-ready
pulse-requires-2-clause-ready c =
    let fixed = c.args.fixed.now in
    let i = c.requires.fixed in
    let are = c.in_ok-pulse.ensures.pulsed in
    let new : List Response = c.pulse.new.responses in
    let items : List Response = c.in_ok-responses.responses.items in
    let back : take c.in_ok-responses.responses.len (new ++ drop (length new) items) ≡ new =
    take_at new (drop (length new) items) c.in_ok-responses.responses.len (omega (arith, are.count, c.in_ok-responses.ensures.count, c.in_ok-responses.responses.ok.0)) in
    rw (c.deref_mut-2.ensures.value, back) (record {
      count = are.count;
      each = λ p pattern r there found. next_ready fixed.design.now fixed.config.now pattern 1 r (value_at c.pulse.new.evaluator p) (value_at c.settle_again.new.evaluator p)
          (λ state next moved settled. c.settle_again.ensures.settled fixed.design.now fixed.config.now i.can i.prepared c.in_ok-pulse.ensures.design p pattern r state next (ap (λ (l : List Response). slice_get l p) (c.deref.ensures.value ∙ back) ∙ found) moved settled)
          (are.each p pattern r there found);
    })

pub returns-clause-captures : goal.returns-clause-captures
returns-clause-captures c =
    let fixed = c.args.fixed.now in
    let are = c.in_ok-pulse-2.ensures.pulsed in
    let one : List Response = c.pulse.new.responses in
    let new : List Response = c.pulse-2.new.responses in
    let items : List Response = c.in_ok-responses.responses.items in
    let len = c.in_ok-responses.responses.len in
    let rest : List Response = drop (length new) (take len (one ++ drop (length one) items)) in
    let back : take len (new ++ rest) ≡ new = take_at new rest len (omega (arith, are.count, c.in_ok-responses.ensures.count, c.in_ok-responses.responses.ok.0)) in
    rw back (record {
      count = are.count;
      each = λ p pattern r there found. two_whole fixed.design.now fixed.config.now pattern r (are.each p pattern r there found).behind;
    })
