-- The roots of nets, as lists by the nets' numbers: where the nets trace to, and the clocks that they show.
use Rattle.std.specs.Prelude.{ℕ, ◌≡◌, List, length, Option, None, slice_index_or}
use Rattle.dft_netlist.specs.declared.instance.Signal.{Signal}
use Rattle.dft_netlist.specs.declared.instance.Signal.TheVariants as signal
use Rattle.dft_behavior.specs.declared.root.Root.{Root}
use Rattle.dft_behavior.specs.declared.root.Root.TheVariants.{Constant, Other}
use Rattle.dft_behavior.specs.declared.root.ClockRoot.{ClockRoot}
use Rattle.dft_behavior.specs.declared.root.NetRoot.{NetRoot}
use Rattle.dft_behavior.specs.declared.root.NetRoot.TheVariants as net
use Rattle.dft_netlist.specs.Netlist.{Netlist}
use Rattle.dft_netlist.specs.Drivers.{Source, Net, Tied, Loose}
use Rattle.dft_behavior.specs.NetRoots.{net_root_of}
use Rattle.dft_behavior.specs.NetRoots as whole
use Rattle.dft_behavior.specs.Traces.{straight_root}
use Rattle.dft_behavior.specs.Traces as traces
use Rattle.dft_behavior.specs.ClockRoots.{clock_of}
use Rattle.dft_behavior.specs.ClockRoots as clocks
use Rattle.dft_behavior.specs.Roots.{shown_net_root, traced, clock_shown}

-- the root of a net
abbrev pub root_at : List NetRoot → (net : ℕ) → NetRoot
root_at roots at = slice_index_or roots at net.Other

-- where what a pin is joined to traces to, where these are the roots of the nets
abbrev pub root_in : List NetRoot → Signal → Root
root_in roots (signal.Net at) = traced (root_at roots at.0)
root_in roots (signal.Constant bit) = Constant bit
root_in roots signal.Unconnected = Other

-- the clock that a pin's signal shows
abbrev pub clock_in : List NetRoot → Signal → Option ClockRoot
clock_in roots (signal.Net at) = clock_shown (root_at roots at.0)
clock_in roots (signal.Constant bit) = None
clock_in roots signal.Unconnected = None

-- the root of a source
abbrev pub net_root_among : List NetRoot → Source → whole.NetRoot
net_root_among roots (Net at) = shown_net_root (root_at roots at)
net_root_among roots (Tied bit) = whole.Constant bit
net_root_among roots (Loose i pin) = whole.Other

-- where it traces to, and the clock that it shows
abbrev pub root_among : List NetRoot → Source → traces.Root
root_among roots source = straight_root (net_root_among roots source)

abbrev pub clock_among : List NetRoot → Source → Option clocks.ClockRoot
clock_among roots source = clock_of (net_root_among roots source)

-- these are the roots of the nets
pub record AreRoots (n : Netlist) (roots : List NetRoot) : Type 0 where
  pub count : length roots ≡ length n.nets
  pub each : (source : Source) → net_root_among roots source ≡ net_root_of n source
