use Rattle.std.proofs.Common.{ℕ, [], ◌∷◌, ◌++◌, sym, ◌≡◌, ◌+◌, ◌/◌, ◌∙◌, List, length, ap, arith}
use Rattle.std.proofs.lemmas.List.FromFn.{map-range_with_len_more}
use Rattle.rand_pcg.specs.Pcg.{pcg32}
use Rattle.dft_random.specs.Words.{generator}
use Rattle.dft_random.proofs.WordLemmas.{words_count}
use Rattle.dft_merge.specs.Fills.{bit_of_column}
use Rattle.dft_merge.proofs.fills.seeded.Goals as goal

pub bit_of_column-requires : goal.bit_of_column-requires
bit_of_column-requires c =
    let count : length c.in_ok-words.words.items ≡ (c.args.columns + 31) / 32 = ap length c.in_ok-words.ensures ∙ words_count pcg32 ((c.args.columns + 31) / 32) (generator c.args.seed c.args.pattern) in
    let size : length c.deref.result.now ≡ length c.in_ok-words.words.items = ap length c.deref.ensures.value in
    omega (arith, c.loop-column-test.true, size, count)

pub loop-column-preserved : goal.loop-column-preserved
loop-column-preserved c =
    let f = bit_of_column c.in_ok-words.words.items in
    let bit : c.bit_of_column.result ≡ f c.loop-column.column = c.bit_of_column.ensures ∙ ap (λ (words : List ℕ). bit_of_column words c.loop-column.column) c.deref.ensures.value in
    c.in_ok-push.ensures.items ∙ (λ i. c.loop-column.invariant i ++ bit i ∷ []) ∙ sym (map-range_with_len_more f 0 c.loop-column.column c.loop-column.column (omega arith))
