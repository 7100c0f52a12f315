use Rattle.std.proofs.Common.{drop}
use Rattle.dft_verilog_draft.proofs.FreeLemmas.{TakesBits}
use Rattle.dft_verilog_draft.proofs.taken_names.TakenNames.take_bits.Given as goal

abbrev pub invariant-loop-bit : goal.invariant-loop-bit
invariant-loop-bit l = TakesBits l.initial.self l.self (drop l.bit-index l.bits) l.bits
