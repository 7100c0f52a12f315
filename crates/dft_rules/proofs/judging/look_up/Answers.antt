use Rattle.std.proofs.Common.{◌≡◌, length, arith}
use Rattle.std.proofs.lemmas.Result.{err_from_is_err_and}
use Rattle.dft_rules.specs.Findings.{AreNets}
use Rattle.dft_rules.specs.Refusals.{clock_as_data, first_present, quoted_port, unknown_cell, unknown_port}
use Rattle.dft_rules.proofs.CheckLemmas.{from_keep, from_present, from_clocks, from_ports, from_count, at_resets, at_keep, at_present, at_clocks, at_ports, at_count, refused_first, refused_by}
use Rattle.dft_rules.proofs.JudgeLemmas.{nets_count, nets_as}
use Rattle.dft_rules.proofs.judging.look_up.Goals as goal

pub returns-in_err-domains-clause-refused : goal.returns-in_err-domains-clause-refused
returns-in_err-domains-clause-refused c =
    let p = err_from_is_err_and c.from_residual.result c.from_residual.ensures.1 in
    rw (p.1, p.2) (refused_first c.args.design.now c.args.config.now c.in_err-domains.field-0.0 (rw c.domains.ensures at c.in_err-domains.ensures.refused))

pub returns-in_err-resets-clause-refused : goal.returns-in_err-resets-clause-refused
returns-in_err-resets-clause-refused c =
    let n = c.args.design.now in
    let config = c.args.config.now in
    let p = err_from_is_err_and c.from_residual-in_err-resets.result c.from_residual-in_err-resets.ensures.1 in
    let resets = at_resets n config (rw c.domains.ensures at c.in_ok-domains.ensures.known) in
    rw (p.1, p.2) (refused_by n config (unknown_port n config.resets) (from_keep n config) c.in_err-resets.field-0.0 resets (rw c.resets.ensures at c.in_err-resets.ensures.refused))

pub returns-in_err-kept-clause-refused : goal.returns-in_err-kept-clause-refused
returns-in_err-kept-clause-refused c =
    let n = c.args.design.now in
    let config = c.args.config.now in
    let p = err_from_is_err_and c.from_residual-in_err-kept.result c.from_residual-in_err-kept.ensures.1 in
    let resets = at_resets n config (rw c.domains.ensures at c.in_ok-domains.ensures.known) in
    let keep = at_keep n config resets (rw c.resets.ensures at c.in_ok-resets.ensures.known) in
    rw (p.1, p.2) (refused_by n config (unknown_cell n config.keep) (from_present n config) c.in_err-kept.field-0.0 keep (rw c.keep.ensures at c.in_err-kept.ensures.refused))

pub returns-in_err-check_absent-clause-refused : goal.returns-in_err-check_absent-clause-refused
returns-in_err-check_absent-clause-refused c =
    let n = c.args.design.now in
    let config = c.args.config.now in
    let p = err_from_is_err_and c.from_residual-in_err-check_absent.result c.from_residual-in_err-check_absent.ensures.1 in
    let resets = at_resets n config (rw c.domains.ensures at c.in_ok-domains.ensures.known) in
    let keep = at_keep n config resets (rw c.resets.ensures at c.in_ok-resets.ensures.known) in
    let present = at_present n config keep (rw c.keep.ensures at c.in_ok-kept.ensures.known) in
    rw (p.1, p.2) (refused_by n config (first_present n.library n.instances) (from_clocks n config) c.in_err-check_absent.field-0.0 present
    (rw (c.cells.ensures.cells, c.library.ensures.library, c.instances.ensures.instances) at c.in_err-check_absent.ensures.refused))

pub check_clocks-requires-clause-few : goal.check_clocks-requires-clause-few
check_clocks-requires-clause-few c =
    let n = c.args.design.now in
    let config = c.args.config.now in
    let found : AreNets n config.domains c.deref.result.now = nets_as n _ _ _ _ c.domains.ensures c.deref.ensures.value c.in_ok-domains.ensures.found in
    let count = nets_count n config.domains c.deref.result.now found in
    omega (arith, c.soundness.ensures.domains.1)

pub check_clocks-requires-clause-small : goal.check_clocks-requires-clause-small
check_clocks-requires-clause-small c =
    let size : length c.deref-2.result.now ≡ length c.args.design.now.nets = rw c.deref-2.ensures.value c.in_ok-roots.ensures.count in
    omega (arith, c.instances.ensures.sound.few_nets)

pub check_clocks-requires-clause-roots : goal.check_clocks-requires-clause-roots
check_clocks-requires-clause-roots c = rw c.deref-2.ensures.value c.in_ok-roots.ensures

pub returns-in_err-check_clocks-clause-refused : goal.returns-in_err-check_clocks-clause-refused
returns-in_err-check_clocks-clause-refused c =
    let n = c.args.design.now in
    let config = c.args.config.now in
    let p = err_from_is_err_and c.from_residual-in_err-check_clocks.result c.from_residual-in_err-check_clocks.ensures.1 in
    let resets = at_resets n config (rw c.domains.ensures at c.in_ok-domains.ensures.known) in
    let keep = at_keep n config resets (rw c.resets.ensures at c.in_ok-resets.ensures.known) in
    let present = at_present n config keep (rw c.keep.ensures at c.in_ok-kept.ensures.known) in
    let clocks = at_clocks n config present (rw (c.cells.ensures.cells, c.library.ensures.library, c.instances.ensures.instances) at c.in_ok-check_absent.ensures.ok) in
    let found : AreNets n config.domains c.deref.result.now = nets_as n _ _ _ _ c.domains.ensures c.deref.ensures.value c.in_ok-domains.ensures.found in
    rw (p.1, p.2) (refused_by n config (clock_as_data n config.domains) (from_ports n config) c.in_err-check_clocks.field-0.0 clocks (c.in_err-check_clocks.ensures.refused config.domains found))

pub returns-in_err-check_ports-clause-refused : goal.returns-in_err-check_ports-clause-refused
returns-in_err-check_ports-clause-refused c =
    let n = c.args.design.now in
    let config = c.args.config.now in
    let p = err_from_is_err_and c.from_residual-in_err-check_ports.result c.from_residual-in_err-check_ports.ensures.1 in
    let resets = at_resets n config (rw c.domains.ensures at c.in_ok-domains.ensures.known) in
    let keep = at_keep n config resets (rw c.resets.ensures at c.in_ok-resets.ensures.known) in
    let present = at_present n config keep (rw c.keep.ensures at c.in_ok-kept.ensures.known) in
    let clocks = at_clocks n config present (rw (c.cells.ensures.cells, c.library.ensures.library, c.instances.ensures.instances) at c.in_ok-check_absent.ensures.ok) in
    let found : AreNets n config.domains c.deref.result.now = nets_as n _ _ _ _ c.domains.ensures c.deref.ensures.value c.in_ok-domains.ensures.found in
    let ports = at_ports n config clocks (c.in_ok-check_clocks.ensures.ok config.domains found) in
    rw (p.1, p.2) (refused_by n config (quoted_port n.ports) (from_count n config) c.in_err-check_ports.field-0.0 ports (rw c.ports.ensures.ports at c.in_err-check_ports.ensures.refused))

pub returns-clause-found : goal.returns-clause-found
returns-clause-found c = record {
  domains = rw c.domains.ensures at c.in_ok-domains.ensures.found;
  resets = rw c.resets.ensures at c.in_ok-resets.ensures.found;
  kept = rw c.keep.ensures at c.in_ok-kept.ensures.found;
  roots = c.in_ok-roots.ensures;
}

pub returns-clause-fits : goal.returns-clause-fits
returns-clause-fits c =
    let n = c.args.design.now in
    let config = c.args.config.now in
    let domains = nets_count n config.domains c.in_ok-domains.domains.items (rw c.domains.ensures at c.in_ok-domains.ensures.found) in
    let resets = nets_count n config.resets c.in_ok-resets.resets.items (rw c.resets.ensures at c.in_ok-resets.ensures.found) in
    record {
      domains = omega (arith, c.soundness.ensures.domains.1);
      resets = omega (arith, c.soundness.ensures.resets);
      kept = c.in_ok-kept.ensures.found.count;
      few = c.instances.ensures.sound.few_instances;
    }

pub returns-clause-passed : goal.returns-clause-passed
returns-clause-passed c =
    let n = c.args.design.now in
    let config = c.args.config.now in
    let resets = at_resets n config (rw c.domains.ensures at c.in_ok-domains.ensures.known) in
    let keep = at_keep n config resets (rw c.resets.ensures at c.in_ok-resets.ensures.known) in
    let present = at_present n config keep (rw c.keep.ensures at c.in_ok-kept.ensures.known) in
    let clocks = at_clocks n config present (rw (c.cells.ensures.cells, c.library.ensures.library, c.instances.ensures.instances) at c.in_ok-check_absent.ensures.ok) in
    let found : AreNets n config.domains c.deref.result.now = nets_as n _ _ _ _ c.domains.ensures c.deref.ensures.value c.in_ok-domains.ensures.found in
    let ports = at_ports n config clocks (c.in_ok-check_clocks.ensures.ok config.domains found) in
    at_count n config ports (rw c.ports.ensures.ports at c.in_ok-check_ports.ensures.ok)
