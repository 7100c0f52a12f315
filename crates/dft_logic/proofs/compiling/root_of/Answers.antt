-- The root of the net.
use Rattle.std.proofs.Common.{◌∙◌, ap}
use Rattle.dft_netlist.specs.declared.instance.Signal.TheVariants as signal
use Rattle.dft_behavior.specs.Roots.{shown_root}
use Rattle.dft_behavior.proofs.RootTables.{root_in_is}
use Rattle.dft_logic.proofs.compiling.root_of.Goals as goal

pub returns-in-Net : goal.returns-in-Net
returns-in-Net c = rw c.in-Net.is (ap shown_root c.root_in.ensures ∙ root_in_is _ _ c.requires.roots 0 0 (signal.Net c.in-Net.net))
