use Rattle.std.proofs.Common.{◌≡◌, ◌<◌, ◌^◌, drop}
use Rattle.std.specs.Str.Parse.{digits_value, digits_value_after}
use Rattle.dft_verilog_tokens.proofs.numbers.small_number.Given as goal

abbrev pub invariant-loop-byte : goal.invariant-loop-byte
invariant-loop-byte l = record { same : digits_value_after 10 l.value (drop l.byte-index l.word) ≡ digits_value 10 l.word; few : l.value < 2 ^ 16 }
