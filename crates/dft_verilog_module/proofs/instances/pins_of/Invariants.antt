use Rattle.std.proofs.Common.{◌≡◌, map, take}
use Rattle.dft_netlist_text.specs.Items.{signal_at}
use Rattle.dft_verilog_module.proofs.instances.pins_of.Given as goal

abbrev pub invariant-loop-to : goal.invariant-loop-to
invariant-loop-to l = l.pins ≡ map signal_at (take l.to-index l.joined)
