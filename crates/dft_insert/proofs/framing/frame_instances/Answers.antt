use Rattle.std.proofs.Common.{◌∙◌, ap, sym, refl, slice_get, length}
use Rattle.std.proofs.lemmas.Option.{slice_get_read}
use Rattle.dft_scan_frame.proofs.LiveNets.{pins_live}
use Rattle.dft_insert.proofs.framing.frame_instances.Goals as goal

pub framed-requires-clause-live : goal.framed-requires-clause-live
framed-requires-clause-live c =
    let items = c.instances-instance-items.result.now in
    let k = c.loop-number.number in
    pins_live c.args.design.now k c.instance-item.result c.library-library.ensures.sound
    (ap (λ xs. slice_get xs k) (sym c.instances-instance-items.ensures.instances) ∙ slice_get_read items (length items) k c.instance-item.result refl c.loop-number-test.true c.instance-item.is)
