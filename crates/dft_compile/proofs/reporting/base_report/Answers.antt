-- What is counted and reported of a planned design.
use Rattle.std.proofs.Common.{◌≤◌, ◌<◌, ◌^◌, ◌∙◌, List, ap, length, subst, sym}
use Rattle.std.specs.List.{All}
use Rattle.dft_netlist.specs.Netlist.{Netlist}
use Rattle.dft_netlist.specs.declared.ids.InstanceId.{InstanceId}
use Rattle.dft_rules.specs.Rules.{judgements}
use Rattle.dft_stitch.specs.Chains.{plan_of}
use Rattle.dft_stitch.specs.Plans.{Plan}
use Rattle.dft_scan.proofs.ShapeLemmas.{few_chains, few_lockups, judgement_count, short_chains}
use Rattle.dft_compile.proofs.reporting.base_report.Goals as goal

pub counts_of-counts-requires-clause-instances : goal.counts_of-counts-requires-clause-instances
counts_of-counts-requires-clause-instances c =
    let l = c.args.loads.now in
    ap length c.verdicts-verdicts.ensures ∙ judgement_count l.design l.config ∙ sym (ap length (c.instances.ensures.instances ∙ ap (λ (n : Netlist). n.instances) c.design-design.ensures))

pub counts_of-counts-requires-clause-few : goal.counts_of-counts-requires-clause-few
counts_of-counts-requires-clause-few c =
    let n = c.args.loads.now.design in
    let config = c.args.loads.now.config in
    let P : Plan → Type 0 = λ p. length p.lockups < 2 ^ 32 in
    subst P (sym (c.chains-chains.ensures ∙ c.soundness.ensures.planned)) (few_lockups (judgements n config) (plan_of n config).chains (few_chains n config c.soundness.ensures.range) (short_chains n config c.soundness.ensures.fits))

pub report_of-requires-clause-short : goal.report_of-requires-clause-short
report_of-requires-clause-short c =
    let P : Plan → Type 0 = λ p. All (λ (cells : List InstanceId). length cells ≤ 65536) p.chains in
    subst P (sym (c.chains-chains.ensures ∙ c.soundness.ensures.planned)) (short_chains c.args.loads.now.design c.args.loads.now.config c.soundness.ensures.fits)
