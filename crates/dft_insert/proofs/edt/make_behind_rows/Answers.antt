use Rattle.std.proofs.Common.{◌≡◌, List, Ok, subst}
use Rattle.std.proofs.lemmas.Result.{err_from_is_err_and}
use Rattle.dft_netlist.specs.declared.ids.NetId.{NetId}
use Rattle.dft_parts.specs.Recipes.{outcome, IsRefusal}
use Rattle.dft_insert.proofs.MadeParts.{edt_chains, ring_refused, chains_refused, rows_made}
use Rattle.dft_insert.proofs.edt.make_behind_rows.Goals as goal

pub returns-in_err-ring : goal.returns-in_err-ring
returns-in_err-ring c =
    let p = err_from_is_err_and c.from_residual.result c.from_residual.ensures.1 in
    rw (p.1, p.2)
    (record { makes = ring_refused c.args.design.now c.args.config.now c.args.chains.now c.args.gap.now c.args.ports.now c.args.rows.now c.args.parts.now c.in_err-ring.field-0.0 c.in_err-ring.ensures.makes })

pub returns-in_err-make_edt_chains : goal.returns-in_err-make_edt_chains
returns-in_err-make_edt_chains c =
    let p = err_from_is_err_and c.from_residual-in_err-make_edt_chains.result c.from_residual-in_err-make_edt_chains.ensures.1 in
    let n = c.args.design.now in
    let config = c.args.config.now in
    let plan = c.args.chains.now in
    let gap = c.args.gap.now in
    let ports = c.args.ports.now in
    let rows = c.args.rows.now in
    rw (p.1, p.2)
    (record {
      makes = chains_refused n config plan gap ports rows c.args.parts.now c.build_ring.new.parts c.in_ok-ring.ring c.in_err-make_edt_chains.field-0.0 c.in_ok-ring.ensures.makes
          (subst (λ (ns : List NetId). IsRefusal (outcome (edt_chains n config plan gap ports rows ns) c.build_ring.new.parts) c.in_err-make_edt_chains.field-0.0) c.as_slice-phases.ensures c.in_err-make_edt_chains.ensures.makes);
    })

pub returns : goal.returns
returns c =
    let n = c.args.design.now in
    let config = c.args.config.now in
    let plan = c.args.chains.now in
    let gap = c.args.gap.now in
    let ports = c.args.ports.now in
    let rows = c.args.rows.now in
    record {
      makes = rows_made n config plan gap ports rows c.args.parts.now c.build_ring.new.parts c.make_edt_chains.new.parts c.in_ok-ring.ring c.make_ends.result c.make_ends.new.parts c.in_ok-ring.ensures.makes
          (subst (λ (ns : List NetId). outcome (edt_chains n config plan gap ports rows ns) c.build_ring.new.parts ≡ Ok (tt, c.make_edt_chains.new.parts)) c.as_slice-phases.ensures c.in_ok-make_edt_chains.ensures.makes)
          c.make_ends.ensures.makes;
    }
