-- What is counted of a planned design.
use Rattle.std.proofs.Common.{◌<◌, ◌^◌, ◌∙◌, ap, length, subst, sym}
use Rattle.dft_netlist.specs.Netlist.{Netlist}
use Rattle.dft_rules.specs.Rules.{judgements}
use Rattle.dft_stitch.specs.Chains.{plan_of}
use Rattle.dft_stitch.specs.Plans.{Plan}
use Rattle.dft_scan.proofs.ShapeLemmas.{few_chains, few_lockups, judgement_count, short_chains}
use Rattle.dft_compile.proofs.work.Work.counts.Goals as goal

pub counts_of-requires-clause-instances : goal.counts_of-requires-clause-instances
counts_of-requires-clause-instances c =
    let l = c.args.self.now.loads.now in
    ap length c.verdicts.ensures ∙ judgement_count l.design l.config ∙ sym (ap length (c.instances.ensures.instances ∙ ap (λ (n : Netlist). n.instances) c.design.ensures))

pub counts_of-requires-clause-few : goal.counts_of-requires-clause-few
counts_of-requires-clause-few c =
    let n = c.args.self.now.loads.now.design in
    let config = c.args.self.now.loads.now.config in
    let P : Plan → Type 0 = λ p. length p.lockups < 2 ^ 32 in
    subst P (sym (c.chains-chains.ensures ∙ c.soundness.ensures.planned)) (few_lockups (judgements n config) (plan_of n config).chains (few_chains n config c.soundness.ensures.range) (short_chains n config c.soundness.ensures.fits))
