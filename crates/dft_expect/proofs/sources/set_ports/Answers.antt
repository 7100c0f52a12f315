-- One port more.
use Rattle.std.proofs.Common.{arith}
use Rattle.std.proofs.lemmas.Option.{slice_get-get_or}
use Rattle.dft_expect.proofs.SourceLemmas.{ports_back, same_more}
use Rattle.dft_expect.proofs.sources.set_ports.Goals as goal

pub loop-done-preserved : goal.loop-done-preserved
loop-done-preserved c =
    let before = c.loop-done.invariant in
    record {
      same = same_more c.args.evaluator.now c.loop-done.evaluator c.set_port.new.evaluator before.same c.set_port.ensures.same;
      set = ports_back c.args.settings.now c.args.pattern c.loop-done.done c.args.ports.now _ c.args.evaluator.now c.loop-done.evaluator c.set_port.new.evaluator c.loop-done-test.true before.set
          (slice_get-get_or c.args.ports.now _ _ (omega (arith, c.loop-done-test.true))) c.set_port.ensures.set;
    }
