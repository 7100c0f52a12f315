use Rattle.std.proofs.Common.{drop}
use Rattle.dft_scan_frame.specs.Growing.{instance_things, with_things}
use Rattle.dft_scan_frame.specs.Moves.{map_from}
use Rattle.dft_scan_frame.proofs.Completing.{Completes}
use Rattle.dft_insert.specs.Frame.{framed_at}
use Rattle.dft_insert.proofs.framing.frame_instances.Given as goal

abbrev pub invariant-loop-number : goal.invariant-loop-number
invariant-loop-number l =
    Completes (with_things l.initial.builder (instance_things (map_from (framed_at l.design l.config l.gap) 0 l.design.instances))) l.builder
    (instance_things (map_from (framed_at l.design l.config l.gap) l.number (drop l.number l.instance-items)))
