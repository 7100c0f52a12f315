-- The planned design passes the scan rules.
use Rattle.std.proofs.Common.{◌∙◌, ap}
use Rattle.dft_expect.specs.Reads.{any_falls}
use Rattle.dft_expect.proofs.capturer.Capturer.prepare.Goals as goal

pub invariant_of-result : goal.invariant_of-result
invariant_of-result c = record {
  can = record {
    range = rw c.config-config.ensures c.soundness.ensures.range;
    passed = rw (c.design-design.ensures, c.config-config.ensures) c.soundness.ensures.passed;
    netlist = c.soundness-2.ensures.netlist;
    library = c.soundness-2.ensures.library;
    ordered = c.soundness-2.ensures.ordered;
  };
  evaluator = c.in_ok-evaluator.ensures.design;
  prepared = rw (c.design-design.ensures, c.config-config.ensures) c.in_ok-settings.ensures;
  reads = rw (c.design-design.ensures, c.config-config.ensures) (rw (c.design-design.ensures, c.chains.ensures) at c.in_ok-reads.ensures);
  falls = c.any_falls-falls.ensures ∙ ap any_falls c.deref.ensures.value;
  outputs = c.in_ok-outputs.ensures;
}
