-- One pattern more.
use Rattle.std.proofs.Common.{◌∙◌, ◌+◌, ◌<◌, ap, length, arith, length-append}
use Rattle.dft_netlist.proofs.NotesLemmas.{item_at}
use Rattle.dft_encode.proofs.FindingLemmas.{loaded_more}
use Rattle.dft_encode.proofs.captures.loaded.Goals as goal

pub loop-k-preserved : goal.loop-k-preserved
loop-k-preserved c =
    let before = c.loop-k.invariant in
    let load = c.index-loads-k.result in
    let inside : c.args.first + c.loop-k.k < length c.args.merged.now = omega (arith, c.requires, c.loop-k-test.true) in
    record {
      count = ap length c.in_ok-push.ensures.items ∙ length-append c.loop-k.patterns.items _ ∙ omega (arith, before.count);
      each = loaded_more c.args.merged.now c.args.first c.loop-k.k c.args.loads.now c.loop-k.patterns.items c.push.new.self.items _ before.count before.each
          (record { merged = item_at c.args.merged.now (c.args.first + c.loop-k.k) c.index-merged-first.result inside c.index-merged-first.is; load = load; at = item_at c.args.loads.now c.loop-k.k load c.loop-k-test.true c.index-loads-k.is; loaded = c.as_slice.ensures })
          c.in_ok-push.ensures.items;
    }
