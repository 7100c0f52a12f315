-- A name with a number behind it is a name.
use Rattle.std.proofs.Common.{ℕ, ◌<◌, ◌^◌, List, length-append, arith}
use Rattle.std.specs.Fmt.{decimal}
use Rattle.std.proofs.lemmas.List.Elements.{All-append}
use Rattle.dft_base.specs.Name.{IsName}
use Rattle.dft_base.proofs.TextLemmas.{IsPrinted, digits_printed}
use Rattle.dft_parts.specs.MadeNames.{numbered}

pub is_numbered : (name : List ℕ) (number : ℕ) → number < 2 ^ 64 → IsName name → IsName (numbered name number)
is_numbered name number lt is = record {
  some = omega (arith, is.some, length-append name (decimal number));
  each = All-append IsPrinted name (decimal number) is.each (digits_printed number lt);
}
