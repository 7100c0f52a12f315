use Rattle.std.proofs.Common.{◌∙◌, ap, arith, length}
use Rattle.dft_config.specs.Config.{Config}
use Rattle.dft_equations.specs.LoadRows.{LoadRows}
use Rattle.dft_gf2.specs.Elimination.{Elimination}
use Rattle.dft_merge.specs.LoadPlan.{columns_by, rows_by}
use Rattle.dft_merge.proofs.MergerLemmas.{state_none}
use Rattle.dft_merge.proofs.merger.Merger.new.Goals as goal

pub invariant_of-result : goal.invariant_of-result
invariant_of-result c =
    let l = c.args.loads.now in
    let none = state_none (columns_by l) (rows_by l) c.window.result c.new-2.result.items c.new-3.result.items c.new-2.ensures.items c.new-3.ensures.items in
    record {
      window = omega (arith, c.soundness.ensures.range.window.0, c.window.ensures, ap (λ (g : Config). g.window) c.config.ensures);
      start = c.mark-start.ensures ∙ ap (λ (s : Elimination). length s.kept) c.in_ok-alone.ensures;
      alone = ap (λ (s : Elimination). s.columns) c.in_ok-alone.ensures ∙ c.columns.ensures ∙ ap (λ (r : LoadRows). r.columns) c.equations.ensures;
      count = none.count;
      slots = none.open_ones;
      loadable = none.loadable;
    }
