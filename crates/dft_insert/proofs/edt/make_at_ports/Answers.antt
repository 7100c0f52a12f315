use Rattle.std.proofs.Common.{List, subst}
use Rattle.std.proofs.lemmas.Result.{err_from_is_err_and}
use Rattle.dft_netlist.specs.declared.ids.NetId.{NetId}
use Rattle.dft_parts.specs.Recipes.{Makes}
use Rattle.dft_insert.specs.Scanned.{behind_rows}
use Rattle.dft_insert.proofs.MadeParts.{edt_rows_refused, edt_made}
use Rattle.dft_insert.proofs.edt.make_at_ports.Goals as goal

pub returns-in_err-rows : goal.returns-in_err-rows
returns-in_err-rows c =
    let p = err_from_is_err_and c.from_residual.result c.from_residual.ensures.1 in
    rw (p.1, p.2) (record { makes = edt_rows_refused c.args.design.now c.args.config.now c.args.chains.now c.args.gap.now c.args.ports.now c.args.parts.now c.in_err-rows.field-0.0 c.in_err-rows.ensures.makes })

pub returns : goal.returns
returns c =
    let n = c.args.design.now in
    let config = c.args.config.now in
    let plan = c.args.chains.now in
    let gap = c.args.gap.now in
    let ports = c.args.ports.now in
    record {
      makes = edt_made n config plan gap ports c.args.parts.now c.make_rows.new.parts c.in_ok-rows.rows.items c.make_behind_rows.result c.make_behind_rows.new.parts c.in_ok-rows.ensures.makes
          (subst (λ (rs : List (List NetId)). Makes (λ _. tt) (behind_rows n config plan gap ports rs) c.make_rows.new.parts c.make_behind_rows.result c.make_behind_rows.new.parts) c.deref.ensures.value c.make_behind_rows.ensures.makes);
    }
