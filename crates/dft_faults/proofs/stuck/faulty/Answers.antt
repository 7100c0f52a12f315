-- It has an order, and no net with two drivers.
use Rattle.std.proofs.Common.{sym, subst}
use Rattle.dft_scan_frame.specs.Statements.{CanFinish}
use Rattle.dft_faults.proofs.Finished.{can_finish}
use Rattle.dft_faults.proofs.stuck.faulty.Goals as goal

pub finish-requires : goal.finish-requires
finish-requires c =
    subst CanFinish (sym c.in_ok-builder.ensures) (can_finish c.args.design.now c.args.fault c.requires c.soundness.ensures.single c.soundness.ensures.finished.orderable)
