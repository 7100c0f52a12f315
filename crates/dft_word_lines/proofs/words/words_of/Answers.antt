use Rattle.std.proofs.Common.{arith}
use Rattle.dft_word_lines.proofs.LineLemmas.{all_words, no_words, one_word}
use Rattle.dft_word_lines.proofs.words.words_of.Goals as goal

pub loop-word-init : goal.loop-word-init
loop-word-init c = no_words c.args.line.now c.clear.new.self.items c.clear.ensures.items

pub next_word-requires : goal.next_word-requires
next_word-requires c = c.loop-word.invariant.inside

pub loop-word-smaller : goal.loop-word-smaller
loop-word-smaller c = let next = c.in-Some.ensures in omega (arith, next.1, next.2, next.3)

pub loop-word-preserved : goal.loop-word-preserved
loop-word-preserved c =
    one_word c.args.line.now c.loop-word.at c.in-Some.word c.loop-word.words.items c.push.new.self.items c.loop-word.invariant c.in-Some.ensures (c.in_ok-push.ensures).items

pub returns-clause-words : goal.returns-clause-words
returns-clause-words c = all_words c.args.line.now c.loop-word.at c.loop-word.words.items c.loop-word.invariant c.in_default.ensures

pub returns-clause-within : goal.returns-clause-within
returns-clause-within c = c.loop-word.invariant.within
