-- Roots as the code has them, with the numbers of their nets.
use Rattle.std.specs.Prelude.{Option, None, Some, if◌then◌else◌}
use Rattle.dft_behavior.specs.declared.root.Root.{Root}
use Rattle.dft_behavior.specs.declared.root.Root.TheVariants.{Port, Constant, Other}
use Rattle.dft_behavior.specs.declared.root.ClockRoot.{ClockRoot}
use Rattle.dft_behavior.specs.declared.root.NetRoot.{NetRoot}
use Rattle.dft_behavior.specs.declared.root.NetRoot.TheVariants as net
use Rattle.dft_behavior.specs.NetRoots as roots
use Rattle.dft_behavior.specs.Traces as traces
use Rattle.dft_behavior.specs.ClockRoots as clocks

-- a root with the number of its net
abbrev pub shown_net_root : NetRoot → roots.NetRoot
shown_net_root (net.Port at inverted straight) = roots.Port at.0 inverted straight
shown_net_root (net.Constant bit) = roots.Constant bit
shown_net_root net.Other = roots.Other

abbrev pub shown_root : Root → traces.Root
shown_root (Port net) = traces.Port net.0
shown_root (Constant bit) = traces.Constant bit
shown_root Other = traces.Other

abbrev pub shown_clock : Option ClockRoot → Option clocks.ClockRoot
shown_clock None = None
shown_clock (Some root) = Some (record { port = root.port.0; inverted = root.inverted })

-- where a net with this root traces to
abbrev pub traced : NetRoot → Root
traced (net.Port at inverted straight) = if straight then Port at else Other
traced (net.Constant bit) = Constant bit
traced net.Other = Other

-- the clock that a net with this root shows
abbrev pub clock_shown : NetRoot → Option ClockRoot
clock_shown (net.Port at inverted straight) = Some (record { port = at; inverted = inverted })
clock_shown (net.Constant bit) = None
clock_shown net.Other = None
