use Rattle.std.proofs.Common.{◌∙◌, ◌+◌, ◌-◌, ap, sym, List, Option}
use Rattle.dft_base.specs.Ranges.{going_up}
use Rattle.dft_netlist.specs.declared.ids.NetId.{NetId}
use Rattle.dft_verilog.specs.FinalNets.{with_numbers}
use Rattle.dft_verilog.proofs.NumberingLemmas.{bits_more}
use Rattle.dft_verilog.proofs.final_nets.number_bits.Goals as goal

pub loop-bit-preserved : goal.loop-bit-preserved
loop-bit-preserved c =
    let bit = c.loop-bit.bit in
    ap (λ (xs : List (Option NetId)). with_numbers (going_up (c.args.first + (bit + 1)) (c.args.count - (bit + 1))) (c.args.next + (bit + 1)) xs) c.give_number.ensures
    ∙ sym (bits_more c.args.first c.args.count bit c.args.next c.loop-bit.numbers c.loop-bit-test.true)
    ∙ c.loop-bit.invariant
