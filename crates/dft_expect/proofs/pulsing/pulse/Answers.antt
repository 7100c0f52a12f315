-- The clocks rise and fall, and where no cell falls the rise is all.
use Rattle.std.proofs.Common.{◌∙◌, refl, slice_get, sym}
use Rattle.dft_evaluator.specs.Evaluations.{value_at}
use Rattle.dft_expect.specs.Captures.{captured_domains}
use Rattle.dft_expect.proofs.CaptureLemmas.{all_risen, can_fall}
use Rattle.dft_expect.proofs.ReadLemmas.{none_falls}
use Rattle.dft_expect.proofs.pulsing.pulse.Goals as goal

pub returns-then-not-fixed-clause-pulsed : goal.returns-then-not-fixed-clause-pulsed
returns-then-not-fixed-clause-pulsed c =
    let fixed = c.args.fixed.now in
    let i = c.requires.fixed in
    let are = c.in_ok-rise_all.ensures in
    record {
      count = are.count;
      each = λ p pattern r there found. all_risen fixed.design.now fixed.config.now pattern c.args.vector (slice_get (captured_domains pattern.merged.now) c.args.vector) r (value_at c.args.evaluator.now p) i.can
          (λ number cell at. none_falls fixed.design.now fixed.config.now fixed.reads.now number cell i.can i.reads (sym i.falls ∙ c.if-not-fixed.true) at) refl (are.each p pattern r there found);
    }

pub fall_all-requires-clause-settled : goal.fall_all-requires-clause-settled
fall_all-requires-clause-settled c =
    let fixed = c.args.fixed.now in
    let i = c.requires.fixed in
    let are = c.in_ok-rise_all.ensures in
    record {
      count = are.count;
      each = λ p pattern r there found. can_fall fixed.design.now fixed.config.now pattern c.args.vector (slice_get (captured_domains pattern.merged.now) c.args.vector) r (value_at c.args.evaluator.now p) (value_at c.settle_again.new.evaluator p)
          (λ state next moved settled. c.settle_again.ensures.settled fixed.design.now fixed.config.now i.can i.prepared c.requires.design p pattern r state next found moved settled) (are.each p pattern r there found);
    }
