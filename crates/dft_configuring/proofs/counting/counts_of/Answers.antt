-- The counts are those of the judged flip-flops and of the plan.
use Rattle.std.proofs.Common.{◌<◌, ◌^◌, ◌∙◌, ◌≡◌, ℕ, List, ap, length, subst, sym}
use Rattle.dft_base.specs.Lexing.{Text}
use Rattle.dft_config.specs.Config.{Config}
use Rattle.dft_config.specs.declared.config.CompactorConfig.{CompactorConfig}
use Rattle.dft_config.specs.declared.config.RingConfig.{RingConfig}
use Rattle.dft_netlist.specs.Netlist.{Netlist}
use Rattle.dft_rules.specs.Rules.{judgements}
use Rattle.dft_stitch.specs.Chains.{longest_chain, plan_of}
use Rattle.dft_stitch.specs.Plans.{Plan}
use Rattle.dft_scan.specs.declared.texts.Counts.{Counts}
use Rattle.dft_scan.specs.Scans.{counts_with}
use Rattle.dft_scan.proofs.ShapeLemmas.{few_chains, few_lockups, judgement_count, short_chains}
use Rattle.dft_configuring.proofs.counting.counts_of.Goals as goal

pub counts_of-scan-requires-clause-instances : goal.counts_of-scan-requires-clause-instances
counts_of-scan-requires-clause-instances c =
    let l = c.args.planned.now in
    ap length c.verdicts-verdicts.ensures ∙ judgement_count l.design l.config ∙ sym (ap length (c.instances.ensures.instances ∙ ap (λ (n : Netlist). n.instances) c.design-design.ensures))

pub counts_of-scan-requires-clause-few : goal.counts_of-scan-requires-clause-few
counts_of-scan-requires-clause-few c =
    let n = c.args.planned.now.design in
    let config = c.args.planned.now.config in
    let P : Plan → Type 0 = λ p. length p.lockups < 2 ^ 32 in
    subst P (sym c.chains-chains.ensures) (few_lockups (judgements n config) (plan_of n config).chains (few_chains n config c.soundness.ensures.range) (short_chains n config c.soundness.ensures.fits))

pub returns : goal.returns
returns c =
    let l = c.args.planned.now in
    let config : c.config-config.result.now ≡ l.config = c.config-config.ensures in
    let scan : c.counts_of-scan.result ≡ counts_with (judgements l.design l.config) (plan_of l.design l.config) =
    c.counts_of-scan.ensures ∙ (λ i. counts_with (c.verdicts-verdicts.ensures i) (c.chains-chains.ensures i)) in
    let cells = ap (λ (k : Counts). k.cells) scan in
    let unscanned = ap (λ (k : Counts). k.unscanned) scan in
    let domains = ap (λ (names : List Text). length names) (c.domains.ensures ∙ ap (λ (g : Config). g.domains) config) in
    let resets = ap (λ (names : List Text). length names) (c.resets.ensures ∙ ap (λ (g : Config). g.resets) config) in
    let chains = c.chains.ensures ∙ ap (λ (g : Config). g.chains) config in
    let more = c.chains-2.ensures ∙ ap (λ (g : Config). g.chains) config in
    let longest = c.longest_chain.ensures.length ∙ (λ i. longest_chain (cells i) (more i)) in
    let ring = c.ring-ring.ensures ∙ ap (λ (g : Config). g.ring) config in
    let compactor = c.compactor-compactor.ensures ∙ ap (λ (g : Config). g.compactor) config in
    let groups = c.as_slice.ensures ∙ ap (λ (k : CompactorConfig). k.groups) compactor in
    let warm = c.warm.ensures ∙ ap (λ (g : Config). g.warm) config in
    let cycles = c.cycles.ensures ∙ ap (λ (p : Plan). p.cycles) c.chains-chains.ensures in
    λ i. record {
      cells = cells i;
      unscanned = unscanned i;
      domains = domains i;
      resets = resets i;
      chains = chains i;
      longest = longest i;
      stages = ap (λ (r : RingConfig). r.stages) ring i;
      channels = ap (λ (r : RingConfig). r.channels) ring i;
      outputs = ap (λ (groups : List (List ℕ)). length groups) groups i;
      masks = ap (λ (k : CompactorConfig). k.mask_inputs) compactor i;
      warm = warm i;
      cycles = cycles i;
    }
