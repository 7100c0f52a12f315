-- Where a source traces to: to its root, an input port's bit or a constant, where no inverter is passed.
use Rattle.std.specs.Prelude.{ℕ, ◌≡◌, Bool, if◌then◌else◌}
use Rattle.dft_netlist.specs.Netlist.{Netlist}
use Rattle.dft_netlist.specs.Drivers.{Source}
use Rattle.dft_behavior.specs.NetRoots.{NetRoot, Rooted, net_root_of}
use Rattle.dft_behavior.specs.NetRoots as roots

pub data Root : Type 0 where
  -- an input port's bit, by its net
  Port : (net : ℕ) → Root
  Constant : (bit : Bool) → Root
  Other : Root

-- the root without inverters
abbrev pub straight_root : NetRoot → Root
straight_root (roots.Port net inverted straight) = if straight then Port net else Other
straight_root (roots.Constant bit) = Constant bit
straight_root roots.Other = Other

-- a source traces to a root where a list of nets leads to it, each driven by a buffer or a join from the next
pub record Traces (n : Netlist) (source : Source) (root : Root) : Type 0 where
  pub whole : NetRoot
  pub rooted : Rooted n source whole
  pub straight : straight_root whole ≡ root

-- where a source traces to
abbrev pub root_of : Netlist → Source → Root
root_of n source = straight_root (net_root_of n source)
