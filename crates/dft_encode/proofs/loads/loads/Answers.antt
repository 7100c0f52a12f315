-- One load more.
use Rattle.std.proofs.Common.{◌∙◌, ap, length, arith, length-append}
use Rattle.dft_encode.proofs.FindingLemmas.{loads_more}
use Rattle.dft_encode.proofs.loads.loads.Goals as goal

pub loop-k-preserved : goal.loop-k-preserved
loop-k-preserved c =
    let before = c.loop-k.invariant in
    record {
      count = ap length c.in_ok-push.ensures.items ∙ length-append c.loop-k.loads.items _ ∙ omega (arith, before.count);
      each = loads_more c.args.finder.now c.args.first c.loop-k.k c.loop-k.loads.items c.push.new.self.items _ before.count before.each c.in_ok-load_of.ensures c.in_ok-push.ensures.items;
    }
