use Rattle.std.proofs.Common.{◌+◌, refl}
use Rattle.dft_scan_frame.proofs.Endings.{ids_more}
use Rattle.dft_scan_frame.proofs.ids.port_ids.Goals as goal

pub loop-number-preserved : goal.loop-number-preserved
loop-number-preserved c =
    ids_more c.args.first c.args.count c.loop-number.number c.loop-number.ids.items c.push.new.self.items (record { 0 = c.args.first + c.loop-number.number }) c.loop-number-test.true refl c.in_ok-push.ensures.items c.loop-number.invariant
