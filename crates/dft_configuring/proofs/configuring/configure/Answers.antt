-- What is found is counted, and passes all checks.
use Rattle.std.proofs.Common.{◌≤◌, ◌∙◌, List, ℕ, ap, length, subst, sym}
use Rattle.std.proofs.lemmas.Result.{err_from_is_err_and}
use Rattle.dft_config.specs.Config.{Config}
use Rattle.dft_config.specs.Range.{IsInRange}
use Rattle.dft_config_text.specs.Refusals.{IsConfig}
use Rattle.dft_rules.specs.Refusals as rules
use Rattle.dft_stitch.specs.Chains.{plan_of}
use Rattle.dft_insert.specs.declared.style.Style.TheVariants.{Edt}
use Rattle.dft_insert.specs.Refusals as insert
use Rattle.dft_configuring.specs.Causes.{IsInsertion}
use Rattle.dft_configuring.specs.Configured.{Passes}
use Rattle.dft_configuring.specs.Counted.{counts_of}
use Rattle.dft_configuring.specs.Rooted.{chain_count}
use Rattle.dft_configuring.proofs.CheckLemmas.{insertion_refused}
use Rattle.dft_configuring.proofs.RuleLemmas.{same_rules}
use Rattle.dft_configuring.proofs.configuring.configure.Goals as goal

pub returns-in_err-written-clause-refused : goal.returns-in_err-written-clause-refused
returns-in_err-written-clause-refused c = let p = err_from_is_err_and c.from_residual.result c.from_residual.ensures.1 in rw (p.1, p.2) c.in_err-written.ensures.refused

pub counted-requires-clause-passed : goal.counted-requires-clause-passed
counted-requires-clause-passed c =
    let n = c.args.design.now in
    let found = c.in_ok-written.ensures.found in
    let frame = found.chosen.is.frame in
    ap (rules.refusal n) found.written.config ∙ same_rules n found.made (chain_count n c.args.wanted.now) frame.domains frame.resets frame.chains ∙ found.accepted.scanned

pub returns-in_err-configured-clause-refused : goal.returns-in_err-configured-clause-refused
returns-in_err-configured-clause-refused c =
    let n = c.args.design.now in
    let error = c.in_err-configured.field-0.0 in
    let found = c.in_ok-written.ensures.found in
    let p = err_from_is_err_and c.from_residual-in_err-configured.result c.from_residual-in_err-configured.ensures.1 in
    let is = subst (λ (g : Config). IsInsertion (insert.refusal Edt n g (plan_of n g)) error) found.written.config c.in_err-configured.ensures.refused in
    rw (p.1, p.2) (insertion_refused n c.args.wanted.now found.made error found.accepted.none found.chosen is)

pub returns-clause-configured : goal.returns-clause-configured
returns-clause-configured c =
    let n = c.args.design.now in
    let found = c.in_ok-written.ensures.found in
    let frame = found.chosen.is.frame in
    let text = c.in_ok-configured.ensures.text in
    let config = c.in_ok-configured.ensures.config in
    let before : Passes n c.in_ok-written.written.config = record {
      scanned = ap (rules.refusal n) found.written.config ∙ same_rules n found.made (chain_count n c.args.wanted.now) frame.domains frame.resets frame.chains ∙ found.accepted.scanned;
      planned = found.fits;
      inserted = c.in_ok-configured.ensures.inserted;
    } in
    record {
      made = found.made;
      passed = found.accepted.none;
      chosen = found.chosen;
      config = config ∙ found.written.config;
      text = text ∙ found.written.text;
      read = subst (λ (g : Config). IsConfig c.in_ok-configured.configured.text.items g) (sym config) (subst (λ (l : List ℕ). IsConfig l c.in_ok-written.written.config) (sym text) found.written.read);
      range = subst IsInRange (sym config) (subst IsInRange c.config.ensures c.soundness.ensures);
      short = subst (λ (l : List ℕ). length l ≤ 67108864) (sym text) found.written.short;
      passes = subst (Passes n) (sym config) before;
      counts = c.in_ok-configured.ensures.counts ∙ ap (counts_of n) (sym config);
    }
