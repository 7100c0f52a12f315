use Rattle.std.proofs.Common.{rules, ◌≡◌, ◌+◌, ◌*◌, ◌^◌, ◌==◌, false, None, get_or, arith}
use Rattle.std.proofs.lemmas.Grind.{common_steps}
use Rattle.std.proofs.lemmas.Bool.Decides.{nat_tests}
use Rattle.std.specs.Char.{digit_value}
use Rattle.dft_verilog_tokens.specs.Digits.{if_below}
use Rattle.dft_verilog_tokens.proofs.DigitLemmas.{overflows_bare, all_bare_read}
use Rattle.dft_verilog_tokens.proofs.numbers.value_of_digits.Goals as goal

pub returns-in_err-value : goal.returns-in_err-value
returns-in_err-value c =
    let none : if_below (2 ^ 128) (c.loop-byte.value * c.args.radix + digit_value (get_or c.args.word.now c.loop-byte.byte-index 0)) ≡ None = first_of (search rules, grind (arith, common_steps)) in
    let digit : (get_or c.args.word.now c.loop-byte.byte-index 0 == 95) ≡ false = first_of (search rules, grind (arith, nat_tests, common_steps)) in
    let large = overflows_bare c.args.radix (2 ^ 128) c.loop-byte.value c.loop-byte.byte-index 0 _ c.args.word.now c.requires (search rules) digit c.loop-byte.invariant.same none in
    first_of (search rules, grind (arith, nat_tests, common_steps))

pub returns : goal.returns
returns c =
    let few = c.loop-byte.invariant.few in
    let whole = all_bare_read c.args.radix c.loop-byte.value c.loop-byte.byte-index _ c.args.word.now (search rules) c.loop-byte.invariant.same in
    first_of (search rules, grind (arith, nat_tests, common_steps))
