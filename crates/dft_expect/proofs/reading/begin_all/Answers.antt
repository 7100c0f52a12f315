-- One pattern more.
use Rattle.std.proofs.Common.{◌∙◌, ap, length, arith}
use Rattle.std.proofs.lemmas.List.{length-append}
use Rattle.dft_netlist.proofs.NotesLemmas.{item_at}
use Rattle.dft_expect.specs.Capturing.{CapturedBehind}
use Rattle.dft_expect.proofs.ReadLemmas.{pushed_more}
use Rattle.dft_expect.proofs.reading.begin_all.Goals as goal

pub loop-place-preserved : goal.loop-place-preserved
loop-place-preserved c =
    let fixed = c.args.fixed.now in
    let before = c.loop-place.invariant in
    let here = c.index-patterns-place.result in
    let at = item_at c.args.patterns.now c.loop-place.place here c.loop-place-test.true c.index-patterns-place.is in
    record {
      count = ap length c.in_ok-push.ensures.items ∙ length-append c.loop-place.responses.items _ ∙ omega (arith, before.count);
      each = pushed_more (λ pattern r. CapturedBehind fixed.design.now fixed.config.now pattern 0 r) c.args.patterns.now c.loop-place.place here c.loop-place.responses.items c.push.new.self.items _ before.count before.each at c.in_ok-begin.ensures
          c.in_ok-push.ensures.items;
    }
