-- The checks in their order.
use Rattle.std.proofs.Common.{◌≡◌, ◌∙◌, ◌≤◌, ℕ, ap, subst, sym}
use Rattle.std.proofs.lemmas.Result.{err_from_is_err_and}
use Rattle.dft_configuring.specs.Rooted.{cell_count, chain_count}
use Rattle.dft_configuring.specs.Wanted.{chains_for}
use Rattle.dft_configuring.proofs.CheckLemmas.{at_chains, at_clocks, at_masks, at_outputs, at_rules, none_fails}
use Rattle.dft_configuring.proofs.Numbers.{chains_some}
use Rattle.dft_configuring.proofs.checking.base_of.Goals as goal

pub returns-in_err-check_clocks-clause-refused : goal.returns-in_err-check_clocks-clause-refused
returns-in_err-check_clocks-clause-refused c =
    let p = err_from_is_err_and c.from_residual-in_err-check_clocks.result c.from_residual-in_err-check_clocks.ensures.1 in
    rw (p.1, p.2) (at_clocks c.args.design.now c.args.wanted.now c.in_err-check_clocks.field-0.0 (rw (c.deref.ensures.value, c.in_ok-roots.ensures.domains) at c.in_err-check_clocks.ensures.refused))

pub returns-in_err-chains-clause-refused : goal.returns-in_err-chains-clause-refused
returns-in_err-chains-clause-refused c =
    let n = c.args.design.now in
    let wanted = c.args.wanted.now in
    let p = err_from_is_err_and c.from_residual-in_err-chains.result c.from_residual-in_err-chains.ensures.1 in
    let clocks = rw (c.deref.ensures.value, c.in_ok-roots.ensures.domains) at c.in_ok-check_clocks.ensures.ok in
    let chains : c.chains_for.result ≡ chain_count n wanted = c.chains_for.ensures ∙ ap (chains_for wanted) c.in_ok-cells.ensures.count in
    rw (p.1, p.2) (at_chains n wanted c.in_err-chains.field-0.0 clocks (rw chains at c.in_err-chains.ensures.refused))

pub check_rules-requires-clause-some : goal.check_rules-requires-clause-some
check_rules-requires-clause-some c = rw (c.deref.ensures.value, c.in_ok-roots.ensures.domains) at c.in_ok-check_clocks.ensures.some

pub check_rules-requires-clause-chains : goal.check_rules-requires-clause-chains
check_rules-requires-clause-chains c =
    let few = c.in_ok-chains.ensures.few in
    let same : c.in_ok-chains.chains ≡ chains_for c.args.wanted.now c.in_ok-cells.cells = few.0 ∙ c.chains_for.ensures in
    (subst (λ (k : ℕ). 1 ≤ k) (sym same) (chains_some c.args.wanted.now c.in_ok-cells.cells c.requires), subst (λ (k : ℕ). k ≤ 1024) (sym few.0) few.1)

pub returns-in_err-check_rules-clause-refused : goal.returns-in_err-check_rules-clause-refused
returns-in_err-check_rules-clause-refused c =
    let n = c.args.design.now in
    let wanted = c.args.wanted.now in
    let p = err_from_is_err_and c.from_residual-in_err-check_rules.result c.from_residual-in_err-check_rules.ensures.1 in
    let clocks = rw (c.deref.ensures.value, c.in_ok-roots.ensures.domains) at c.in_ok-check_clocks.ensures.ok in
    let found : c.chains_for.result ≡ chain_count n wanted = c.chains_for.ensures ∙ ap (chains_for wanted) c.in_ok-cells.ensures.count in
    let chains : c.in_ok-chains.chains ≡ chain_count n wanted = c.in_ok-chains.ensures.few.0 ∙ found in
    rw (p.1, p.2) (at_rules n wanted c.in_err-check_rules.field-0.0 clocks (rw found at c.in_ok-chains.ensures.ok) (rw chains at c.in_err-check_rules.ensures.refused))

pub returns-in_err-check_outputs-clause-refused : goal.returns-in_err-check_outputs-clause-refused
returns-in_err-check_outputs-clause-refused c =
    let n = c.args.design.now in
    let wanted = c.args.wanted.now in
    let p = err_from_is_err_and c.from_residual-in_err-check_outputs.result c.from_residual-in_err-check_outputs.ensures.1 in
    let clocks = rw (c.deref.ensures.value, c.in_ok-roots.ensures.domains) at c.in_ok-check_clocks.ensures.ok in
    let found : c.chains_for.result ≡ chain_count n wanted = c.chains_for.ensures ∙ ap (chains_for wanted) c.in_ok-cells.ensures.count in
    let chains : c.in_ok-chains.chains ≡ chain_count n wanted = c.in_ok-chains.ensures.few.0 ∙ found in
    let rules = rw chains at c.in_ok-check_rules.ensures.none in
    rw (p.1, p.2) (at_outputs n wanted c.in_err-check_outputs.field-0.0 clocks (rw found at c.in_ok-chains.ensures.ok) rules (rw (c.outputs_of.ensures, chains) at c.in_err-check_outputs.ensures.refused))

pub returns-in_err-check_masks-clause-refused : goal.returns-in_err-check_masks-clause-refused
returns-in_err-check_masks-clause-refused c =
    let n = c.args.design.now in
    let wanted = c.args.wanted.now in
    let p = err_from_is_err_and c.from_residual-in_err-check_masks.result c.from_residual-in_err-check_masks.ensures.1 in
    let clocks = rw (c.deref.ensures.value, c.in_ok-roots.ensures.domains) at c.in_ok-check_clocks.ensures.ok in
    let found : c.chains_for.result ≡ chain_count n wanted = c.chains_for.ensures ∙ ap (chains_for wanted) c.in_ok-cells.ensures.count in
    let chains : c.in_ok-chains.chains ≡ chain_count n wanted = c.in_ok-chains.ensures.few.0 ∙ found in
    let rules = rw chains at c.in_ok-check_rules.ensures.none in
    rw (p.1, p.2) (at_masks n wanted c.in_err-check_masks.field-0.0 clocks (rw found at c.in_ok-chains.ensures.ok) rules (rw (c.outputs_of.ensures, chains) at c.in_ok-check_outputs.ensures.ok) (rw chains at c.in_err-check_masks.ensures.refused))

pub returns-clause-base : goal.returns-clause-base
returns-clause-base c =
    let n = c.args.design.now in
    let wanted = c.args.wanted.now in
    let clocks = rw (c.deref.ensures.value, c.in_ok-roots.ensures.domains) at c.in_ok-check_clocks.ensures.ok in
    let found : c.chains_for.result ≡ chain_count n wanted = c.chains_for.ensures ∙ ap (chains_for wanted) c.in_ok-cells.ensures.count in
    let chains : c.in_ok-chains.chains ≡ chain_count n wanted = c.in_ok-chains.ensures.few.0 ∙ found in
    let rules = rw chains at c.in_ok-check_rules.ensures.ok in
    let outputs = rw (c.outputs_of.ensures, chains) at c.in_ok-check_outputs.ensures.ok in
    let masks = rw chains at c.in_ok-check_masks.ensures.ok in
    let many = rw found at c.in_ok-chains.ensures.ok in
    record {
      roots = c.in_ok-roots.ensures;
      cells = c.in_ok-cells.ensures.count;
      chains = chains;
      few = c.in_ok-cells.ensures.few;
      accepted = record {
        none = none_fails n wanted clocks many (rw chains at c.in_ok-check_rules.ensures.none) outputs masks;
        clocks = rw (c.deref.ensures.value, c.in_ok-roots.ensures.domains) at c.in_ok-check_clocks.ensures.some;
        few = (chains_some wanted (cell_count n) c.requires, subst (λ (k : ℕ). k ≤ 1024) found c.in_ok-chains.ensures.few.1);
        scanned = rules;
        outputs = rw (c.outputs_of.ensures, chains) at c.in_ok-check_outputs.ensures.few;
        masks = masks;
      };
    }
