use Rattle.std.proofs.Common.{◌≡◌, ◌-◌, ◌++◌, map}
use Rattle.std.specs.List.{range_with_len}
use Rattle.dft_scan_frame.specs.AddedPorts.{new_port, numbered, numbered_ports}
use Rattle.dft_insert.proofs.ports.push_numbered.Given as goal

abbrev pub invariant-loop-number : goal.invariant-loop-number
invariant-loop-number l = l.ports.items ++ map (λ number. new_port l.dir (numbered l.name number)) (range_with_len l.number (l.count - l.number)) ≡ l.fn.ports.items ++ numbered_ports l.dir l.name l.count
