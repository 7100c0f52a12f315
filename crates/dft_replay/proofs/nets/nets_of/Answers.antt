-- One signal more.
use Rattle.std.proofs.Common.{◌∙◌, length}
use Rattle.dft_replay.proofs.SignalLemmas.{nets_more, live_more, fit_more}
use Rattle.dft_replay.proofs.nets.nets_of.Goals as goal

pub loop-signal-preserved : goal.loop-signal-preserved
loop-signal-preserved c =
    let i = c.loop-signal.signal-index in
    record {
      nets = nets_more c.args.design.now c.args.signals.now i c.signal-item.result c.in-Some.net c.loop-signal.nets.items c.push.new.self.items c.loop-signal-test.true c.signal-item.is c.in-Some.ensures.found c.in_ok-push-in-Some.ensures.items c.loop-signal.invariant.nets;
      live = live_more (length c.args.design.now.nets) c.in-Some.net c.loop-signal.nets.items c.push.new.self.items c.in-Some.ensures.live c.in_ok-push-in-Some.ensures.items c.loop-signal.invariant.live;
      fit = c.loop-signal.invariant.fit ∙ fit_more c.args.design.now c.args.signals.now i c.signal-item.result c.loop-signal-test.true c.signal-item.is c.in-Some.ensures.fits;
    }
