-- No plan is made.
use Rattle.std.proofs.Common.{ℕ, ◌<◌, ◌∙◌, ap, length, sym, subst, arith}
use Rattle.dft_logic.specs.Circuit.{Circuit}
use Rattle.dft_cycle.proofs.planning.Plans.prepare.Goals as goal

pub returns-clause-plans : goal.returns-clause-plans
returns-clause-plans c = λ l. record {
  pins = c.in_ok-pins.ensures.pins;
  sketch = record {
    origins = sym c.in_ok-origins.origins.ok.0 ∙ c.in_ok-origins.ensures.len ∙ c.len.ensures ∙ c.circuit.inside.ops.ok.0 ∙ ap (λ (m : Circuit). length m.ops) c.circuit.view_is;
    shown = sym c.in_ok-shown.shown.ok.0 ∙ c.in_ok-shown.ensures.len ∙ c.len-2.ensures ∙ c.circuit.inside.ops.ok.0 ∙ ap (λ (m : Circuit). length m.ops) c.circuit.view_is;
    entries = sym c.in_ok-entries.entries.ok.0 ∙ c.in_ok-entries.ensures.len ∙ c.len-3.ensures ∙ c.circuit.inside.flops.ok.0 ∙ ap (λ (m : Circuit). length m.flops) c.circuit.view_is;
  };
  list = sym c.in_ok-list.list.ok.0 ∙ c.in_ok-list.ensures.len ∙ c.len-4.ensures ∙ c.circuit.inside.ops.ok.0 ∙ ap (λ (m : Circuit). length m.ops) c.circuit.view_is;
  plans = c.in_ok-plans.ensures.all l;
  some = subst (λ (n : ℕ). 0 < n) (sym c.in_ok-plans.ensures.count) (omega arith);
}
