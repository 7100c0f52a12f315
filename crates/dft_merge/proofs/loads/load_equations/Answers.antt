-- The lengths of the chains.
use Rattle.std.proofs.Common.{◌≤◌, ◌∙◌, ℕ, List, ap, length, subst, sym}
use Rattle.std.specs.List.{All}
use Rattle.std.proofs.lemmas.List.{length-map}
use Rattle.std.proofs.lemmas.List.Elements.{All-map}
use Rattle.dft_netlist.specs.declared.ids.InstanceId.{InstanceId}
use Rattle.dft_config.specs.Config.{Config}
use Rattle.dft_stitch.specs.Plans.{Plan}
use Rattle.dft_stitch.proofs.ChainLimits.{chains_count, chains_short}
use Rattle.dft_merge.proofs.HeadLemmas.{heads_same}
use Rattle.dft_merge.proofs.loads.load_equations.Goals as goal

pub lengths_of-requires-clause-cells : goal.lengths_of-requires-clause-cells
lengths_of-requires-clause-cells c =
    subst (λ (p : Plan). All (λ (cells : List InstanceId). length cells ≤ p.cycles) p.chains) (sym c.chains-chains.ensures) (chains_short c.args.planned.now.design c.args.planned.now.config)

pub equations-requires-clause-chains : goal.equations-requires-clause-chains
equations-requires-clause-chains c =
    let chains = c.chains-chains.result.now.chains in
    ap length (c.deref.ensures.value ∙ c.in_ok-lengths.ensures) ∙ length-map chains (λ (cells : List InstanceId). length cells) ∙ ap (λ (p : Plan). length p.chains) c.chains-chains.ensures
    ∙ chains_count c.args.planned.now.design c.args.planned.now.config ∙ ap (λ (g : Config). g.chains) (sym c.config.ensures)

pub equations-requires-clause-lengths : goal.equations-requires-clause-lengths
equations-requires-clause-lengths c =
    let plan = c.chains-chains.result.now in
    let short : All (λ (cells : List InstanceId). length cells ≤ plan.cycles) plan.chains =
    subst (λ (p : Plan). All (λ (cells : List InstanceId). length cells ≤ p.cycles) p.chains) (sym c.chains-chains.ensures) (chains_short c.args.planned.now.design c.args.planned.now.config) in
    subst (λ (k : ℕ). All (λ (l : ℕ). l ≤ k) c.deref.result.now) (sym c.cycles.ensures)
    (subst (λ (ls : List ℕ). All (λ (l : ℕ). l ≤ plan.cycles) ls) (sym (c.deref.ensures.value ∙ c.in_ok-lengths.ensures)) (All-map (λ (l : ℕ). l ≤ plan.cycles) (λ (cells : List InstanceId). length cells) plan.chains short))

pub equations-requires-clause-heads : goal.equations-requires-clause-heads
equations-requires-clause-heads c =
    let chains = c.chains-chains.result.now.chains in
    ap length c.deref-2.ensures.value ∙ c.in_ok-heads.ensures.count ∙ sym (ap length (c.deref.ensures.value ∙ c.in_ok-lengths.ensures) ∙ length-map chains (λ (cells : List InstanceId). length cells))

pub returns : goal.returns
returns c =
    let design = c.args.planned.now.design in
    let config = c.args.planned.now.config in
    let heads = rw c.chains-chains.ensures at c.in_ok-heads.ensures in
    let same = heads_same design config c.in_ok-heads.heads.items heads.count heads.each in
    rw (c.config.ensures, c.deref.ensures.value, c.in_ok-lengths.ensures, c.deref-2.ensures.value, same, c.cycles.ensures, c.chains-chains.ensures) at c.equations.ensures
