use Rattle.std.proofs.Common.{◌≡◌, ◌++◌, ◌+◌, ◌-◌}
use Rattle.dft_scan_frame.proofs.Endings.{ids_from}
use Rattle.dft_scan_frame.proofs.ids.port_ids.Given as goal

abbrev pub invariant-loop-number : goal.invariant-loop-number
invariant-loop-number l = l.ids.items ++ ids_from (l.first + l.number) (l.count - l.number) ≡ ids_from l.first l.count
