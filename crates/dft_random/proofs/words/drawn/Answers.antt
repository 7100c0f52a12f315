use Rattle.std.proofs.Common.{ℕ, ◌≡◌, ◌++◌, ◌+◌, ◌-◌, ◌∙◌, List, ap}
use Rattle.rand_core.specs.Steps.{first_words}
use Rattle.rand_pcg.specs.Lcg.{Lcg}
use Rattle.rand_pcg.specs.Pcg.{pcg32}
use Rattle.dft_random.specs.Words.{generator}
use Rattle.dft_random.proofs.WordLemmas.{words_all, words_more}
use Rattle.dft_random.proofs.words.drawn.Goals as goal

pub loop-turn-preserved : goal.loop-turn-preserved
loop-turn-preserved c =
    ap (λ (l : List ℕ). l ++ first_words pcg32 (c.args.count - (c.loop-turn._turn + 1)) c.next_word.new.self) c.in_ok-push.ensures.items
    ∙ words_more c.args.count c.loop-turn._turn c.next_word.result c.loop-turn.words.items (first_words pcg32 c.args.count c.new-random.result) c.loop-turn.random c.next_word.new.self
    c.loop-turn-test.true c.next_word.ensures c.loop-turn.invariant

pub returns : goal.returns
returns c =
    let start : c.new-random.result ≡ generator c.args.seed c.args.stream = c.new-random.ensures ∙ ap (generator c.args.seed) c.from.ensures in
    words_all c.args.count c.loop-turn._turn c.loop-turn.words.items (first_words pcg32 c.args.count c.new-random.result) c.loop-turn.random c.loop-turn-test.false c.loop-turn.invariant
    ∙ ap (λ (s : Lcg). first_words pcg32 c.args.count s) start
