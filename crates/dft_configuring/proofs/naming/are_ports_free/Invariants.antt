-- The numbers from here on give what all of them give.
use Rattle.std.proofs.Common.{◌≡◌, ◌-◌}
use Rattle.std.specs.List.{list_all, range_with_len}
use Rattle.dft_configuring.specs.Names.{is_port_free}
use Rattle.dft_configuring.proofs.naming.are_ports_free.Given as goal

abbrev pub invariant-loop-number : goal.invariant-loop-number
invariant-loop-number l = list_all (is_port_free l.design l.name) (range_with_len l.number (l.count - l.number)) ≡ list_all (is_port_free l.design l.name) (range_with_len 0 l.count)
