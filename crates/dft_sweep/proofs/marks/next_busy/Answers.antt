-- The places of a word that are passed over are idle.
use Rattle.std.proofs.Common.{inl, inr, ◌<◌, ◌%◌, length, arith}
use Rattle.std.proofs.lemmas.Bool.Decides.{leb_tells}
use Rattle.dft_sweep.proofs.Placings.{word_idle}
use Rattle.dft_sweep.proofs.marks.next_busy.Goals as goal

pub returns-in-Some-clause-idle : goal.returns-in-Some-clause-idle
returns-in-Some-clause-idle c = λ p low high. elim (leb_tells c.loop-word.at p) [
  | inl here ↦ (let at = c.loop-word.invariant.here in
      let there : c.loop-word.word < length c.args.busy.now = (let less = c.loop-word-test.true in let e = c.min-word-end.ensures in omega arith) in
      word_idle c.args.busy.now c.loop-word.word (c.loop-word.at % 64) c.in-Some.place p there c.in-Some.ensures.2 (let fits = c.in-Some.ensures.1 in omega arith) (omega (arith, at, here.1)) high)
  | inr before ↦ c.loop-word.invariant.idle p low before.1
]

pub loop-word-preserved : goal.loop-word-preserved
loop-word-preserved c = record {
  low = (let at = c.loop-word.invariant.here in let low = c.loop-word.invariant.low in omega arith);
  here = omega arith;
  idle = λ p low high. elim (leb_tells c.loop-word.at p) [
    | inl here ↦ (let at = c.loop-word.invariant.here in
        let there : c.loop-word.word < length c.args.busy.now = (let less = c.loop-word-test.true in let e = c.min-word-end.ensures in omega arith) in
        word_idle c.args.busy.now c.loop-word.word (c.loop-word.at % 64) 64 p there c.in_default.ensures (omega arith) (omega (arith, at, here.1)) high)
    | inr before ↦ c.loop-word.invariant.idle p low before.1
  ];
}
