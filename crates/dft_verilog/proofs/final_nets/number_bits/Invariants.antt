use Rattle.std.proofs.Common.{◌≡◌, ◌+◌, ◌-◌}
use Rattle.dft_base.specs.Ranges.{going_up}
use Rattle.dft_verilog.specs.FinalNets.{with_numbers}
use Rattle.dft_verilog.proofs.final_nets.number_bits.Given as goal

abbrev pub invariant-loop-bit : goal.invariant-loop-bit
invariant-loop-bit l = with_numbers (going_up (l.first + l.bit) (l.count - l.bit)) (l.next + l.bit) l.numbers ≡ with_numbers (going_up l.first l.count) l.next l.initial.numbers
