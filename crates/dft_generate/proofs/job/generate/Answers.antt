use Rattle.std.proofs.Common.{◌+◌, ◌*◌, ◌/◌, ◌≡◌, length, ap, arith, ◌∙◌}
use Rattle.rand_pcg.specs.Pcg.{pcg32}
use Rattle.dft_random.specs.Words.{generator}
use Rattle.dft_random.proofs.WordLemmas.{words_count}
use Rattle.dft_generate.proofs.job.generate.Goals as goal

pub job_of-requires-clause-words : goal.job_of-requires-clause-words
job_of-requires-clause-words c =
    let count : length c.in_ok-words.words.items ≡ c.args.size * 3 + c.args.size / 4 * 4 = ap length c.in_ok-words.ensures ∙ words_count pcg32 (c.args.size * 3 + c.args.size / 4 * 4) (generator c.args.seed 0) in
    let same : length c.deref.result.now ≡ length c.in_ok-words.words.items = ap length c.deref.ensures.value in
    omega (arith, count, same)
