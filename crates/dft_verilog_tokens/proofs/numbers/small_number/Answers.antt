use Rattle.std.proofs.Common.{rules, ◌≡◌, ◌+◌, ◌*◌, ◌^◌, None, get_or, arith}
use Rattle.std.proofs.lemmas.Grind.{common_steps}
use Rattle.std.proofs.lemmas.Bool.Decides.{nat_tests}
use Rattle.std.specs.Char.{digit_value}
use Rattle.dft_verilog_tokens.specs.Digits.{if_below}
use Rattle.dft_verilog_tokens.proofs.DigitLemmas.{overflows, all_read}
use Rattle.dft_verilog_tokens.proofs.numbers.small_number.Goals as goal

pub returns-in_err-value : goal.returns-in_err-value
returns-in_err-value c =
    let none : if_below (2 ^ 16) (c.loop-byte.value * 10 + digit_value (get_or c.args.word.now c.loop-byte.byte-index 0)) ≡ None = first_of (search rules, grind (arith, common_steps)) in
    let large = overflows 10 (2 ^ 16) c.loop-byte.value c.loop-byte.byte-index 0 _ c.args.word.now (omega arith) (search rules) c.loop-byte.invariant.same none in
    first_of (search rules, grind (arith, nat_tests, common_steps))

pub returns : goal.returns
returns c =
    let few = c.loop-byte.invariant.few in
    let whole = all_read 10 c.loop-byte.value c.loop-byte.byte-index _ c.args.word.now (search rules) c.loop-byte.invariant.same in
    first_of (search rules, grind (arith, nat_tests, common_steps))
