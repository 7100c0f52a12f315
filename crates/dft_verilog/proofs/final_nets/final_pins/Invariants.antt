use Rattle.std.proofs.Common.{◌≡◌, map, take}
use Rattle.dft_verilog.specs.FinalNets.{signal_by}
use Rattle.dft_verilog.proofs.final_nets.final_pins.Given as goal

abbrev pub invariant-loop-pin : goal.invariant-loop-pin
invariant-loop-pin l = l.signals ≡ map (signal_by l.finals) (take l.pin-index l.pins)
