-- What is read is what is captured.
use Rattle.std.proofs.Common.{◌∙◌, refl}
use Rattle.dft_evaluator.specs.Evaluations.{value_at}
use Rattle.dft_expect.proofs.ReadLemmas.{fallen}
use Rattle.dft_expect.proofs.reading.fall.Goals as goal

pub returns : goal.returns
returns c = λ pattern count at falls.
    (let fixed = c.args.fixed.now in
    fallen fixed.design.now fixed.config.now pattern count c.args.domain (value_at c.args.evaluator.now c.args.place) c.clock_of.result fixed.reads.now c.args.response.now _ c.requires.fixed.can c.requires.fixed.reads c.clock_of.ensures
    (c.from_vec.ensures ∙ (rw c.as_slice-before.ensures at c.in_ok-cells.ensures)) refl at falls)
