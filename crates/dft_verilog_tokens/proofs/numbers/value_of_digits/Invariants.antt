use Rattle.std.proofs.Common.{◌≡◌, ◌<◌, ◌^◌, drop}
use Rattle.std.specs.Str.Parse.{digits_value, digits_value_after}
use Rattle.dft_netlist_text.specs.Expressions.{bare_digits}
use Rattle.dft_verilog_tokens.proofs.numbers.value_of_digits.Given as goal

abbrev pub invariant-loop-byte : goal.invariant-loop-byte
invariant-loop-byte l = record { same : digits_value_after l.radix l.value (bare_digits (drop l.byte-index l.word)) ≡ digits_value l.radix (bare_digits l.word); few : l.value < 2 ^ 128 }
