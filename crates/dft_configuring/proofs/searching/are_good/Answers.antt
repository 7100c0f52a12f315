-- The load equations are those of the planned chains.
use Rattle.std.proofs.Common.{◌≡◌, ◌≤◌, ◌∙◌, ℕ, List, length, map, ap, subst, sym}
use Rattle.std.specs.List.{All}
use Rattle.std.proofs.lemmas.List.{length-map}
use Rattle.std.proofs.lemmas.Result.{err_from_is_err_and}
use Rattle.dft_netlist.specs.declared.ids.InstanceId.{InstanceId}
use Rattle.dft_equations.specs.LoadRows.{AreLoadEquations, LoadRows}
use Rattle.dft_rules.specs.Refusals as rules
use Rattle.dft_stitch.specs.Chains.{plan_of}
use Rattle.dft_stitch.specs.Limits as limits
use Rattle.dft_stitch.specs.Plans.{Plan, falling_head}
use Rattle.dft_stitch.proofs.ChainLimits.{chains_count, chains_short, limits as within_limits}
use Rattle.dft_configure.specs.Good.{HaveLengths}
use Rattle.dft_configuring.specs.Searching.{AreRows}
use Rattle.dft_configuring.proofs.PlanLemmas.{good_where, have_lengths, only_stitch, rows_wide}
use Rattle.dft_configuring.proofs.searching.are_good.Goals as goal

pub returns-in_err-planned-clause-refused : goal.returns-in_err-planned-clause-refused
returns-in_err-planned-clause-refused c =
    let n = c.args.design.now in
    let config = c.args.config.now in
    let p = err_from_is_err_and c.from_residual.result c.from_residual.ensures.1 in
    rw (p.1, p.2) (only_stitch (rules.refusal n config) (limits.refusal n config) c.in_err-planned.field-0.0 c.requires c.in_err-planned.ensures.refused)

pub lengths_of-requires-clause-cells : goal.lengths_of-requires-clause-cells
lengths_of-requires-clause-cells c =
    let plan : c.chains.result.now ≡ plan_of c.in_ok-loads.loads.design c.in_ok-loads.loads.config = c.chains.ensures ∙ c.soundness.ensures.planned in
    subst (λ (p : Plan). All (λ (cells : List InstanceId). length cells ≤ p.cycles) p.chains) (sym plan) (chains_short c.in_ok-loads.loads.design c.in_ok-loads.loads.config)

pub lengths_of-requires-clause-cycles : goal.lengths_of-requires-clause-cycles
lengths_of-requires-clause-cycles c =
    let l = c.in_ok-loads.loads in
    let plan : c.chains.result.now ≡ plan_of l.design l.config = c.chains.ensures ∙ c.soundness.ensures.planned in
    subst (λ (p : Plan). p.cycles ≤ 4096) (sym plan) (within_limits l.design l.config c.soundness.ensures.fits).0

pub returns-clause-fits : goal.returns-clause-fits
returns-clause-fits c = rw (c.in_ok-loads.ensures.design, c.in_ok-loads.ensures.config, c.in_ok-planned.ensures.planned) at c.soundness.ensures.fits

pub is_good-requires-clause-lengths : goal.is_good-requires-clause-lengths
is_good-requires-clause-lengths c =
    let l = c.in_ok-loads.loads in
    let lengths : c.deref.result.now ≡ map length l.plan.chains = c.deref.ensures.value ∙ c.in_ok-lengths.ensures ∙ ap (λ (p : Plan). map length p.chains) c.chains.ensures in
    subst (λ (rows : LoadRows). HaveLengths rows c.deref.result.now) (sym c.equations.ensures)
    (subst (λ (ls : List ℕ). HaveLengths l.rows ls) (sym lengths) (have_lengths l.config.ring (map length l.plan.chains) (falling_head l.plan) l.plan.cycles l.rows c.soundness.ensures.equations))

pub is_good-requires-clause-few : goal.is_good-requires-clause-few
is_good-requires-clause-few c =
    let l = c.in_ok-loads.loads in
    let lengths : c.deref.result.now ≡ map length l.plan.chains = c.deref.ensures.value ∙ c.in_ok-lengths.ensures ∙ ap (λ (p : Plan). map length p.chains) c.chains.ensures in
    let count : length c.deref.result.now ≡ l.config.chains =
    ap length lengths ∙ length-map l.plan.chains (λ (cells : List InstanceId). length cells) ∙ ap (λ (p : Plan). length p.chains) c.soundness.ensures.planned ∙ chains_count l.design l.config in
    subst (λ (k : ℕ). k ≤ 1024) (sym count) c.soundness.ensures.range.chains.1

pub returns-clause-good : goal.returns-clause-good
returns-clause-good c =
    let n = c.args.design.now in
    let config = c.args.config.now in
    let l = c.in_ok-loads.loads in
    let are : AreRows l.design l.config l.rows = subst (λ (p : Plan). AreLoadEquations l.config.ring (map length p.chains) (falling_head p) p.cycles l.rows) c.soundness.ensures.planned c.soundness.ensures.equations in
    let mine : AreRows n config l.rows = rw (c.in_ok-loads.ensures.design, c.in_ok-loads.ensures.config, c.in_ok-planned.ensures.planned) at are in
    let wide = rows_wide l.config.ring (map length l.plan.chains) (falling_head l.plan) l.plan.cycles l.rows c.soundness.ensures.equations in
    good_where n config l.rows c.in_ok-good.good c.tested_are_good.ensures mine wide (rw c.equations.ensures at c.in_ok-good.ensures)
