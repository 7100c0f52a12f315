-- At first no bit is set; at the end each is as it is to be.
use Rattle.std.proofs.Common.{ℕ, List, ◌+◌, ◌/◌, ◌≡◌, length, get_or, replicate, ap, sym, arith, ◌∙◌, refl, false}
use Rattle.std.proofs.lemmas.Bool.{cases_lt}
use Rattle.std.proofs.lemmas.List.{length-replicate}
use Rattle.std.proofs.lemmas.List.FromFn.{fill_by_all}
use Rattle.dft_base.specs.Packed.{packed_bit}
use Rattle.dft_base.proofs.ListLemmas.{zeros_case}
use Rattle.dft_lanes.proofs.RowLemmas.{packed_bit-zeros}
use Rattle.dft_equations.proofs.row.Row.of_bits.Goals as goal

pub loop-column-init : goal.loop-column-init
loop-column-init c =
    let n = (length c.args.bits.now + 63) / 64 in
    let all : c.in_ok-words.words.items ≡ replicate n 0 = c.in_ok-words.ensures in
    record {
      size = ap length all ∙ length-replicate {A = ℕ} n 0;
      done = λ k less. absurd (omega arith);
      rest = λ k any. packed_bit-zeros c.in_ok-words.words.items k (λ i. ap (λ (words : List ℕ). get_or words i 0) all ∙ zeros_case n i (cases_lt i n));
    }

pub returns : goal.returns
returns c = sym (fill_by_all (packed_bit c.loop-column.words.items) c.args.bits.now (length c.args.bits.now) false refl (λ k less. sym (c.loop-column.invariant.done k (omega arith))))
