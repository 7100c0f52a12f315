use Rattle.std.proofs.Common.{◌≡◌, List, Ok, subst}
use Rattle.std.proofs.lemmas.Result.{err_from_is_err_and}
use Rattle.dft_netlist.specs.declared.ids.NetId.{NetId}
use Rattle.dft_parts.specs.Recipes.{outcome, IsRefusal, Makes}
use Rattle.dft_insert.proofs.MadeParts.{plain_chains, plain_ends, plain_rows_refused, plain_chains_refused, plain_made}
use Rattle.dft_insert.proofs.plain.make_plain.Goals as goal

pub returns-in_err-rows : goal.returns-in_err-rows
returns-in_err-rows c =
    let p = err_from_is_err_and c.from_residual.result c.from_residual.ensures.1 in
    rw (p.1, p.2) (record { makes = plain_rows_refused c.args.design.now c.args.config.now c.args.chains.now c.args.gap.now c.args.parts.now c.in_err-rows.field-0.0 c.in_err-rows.ensures.makes })

pub returns-in_err-make_plain_chains : goal.returns-in_err-make_plain_chains
returns-in_err-make_plain_chains c =
    let p = err_from_is_err_and c.from_residual-in_err-make_plain_chains.result c.from_residual-in_err-make_plain_chains.ensures.1 in
    let n = c.args.design.now in
    let config = c.args.config.now in
    let plan = c.args.chains.now in
    let gap = c.args.gap.now in
    let rows = c.in_ok-rows.rows.items in
    rw (p.1, p.2)
    (record {
      makes = plain_chains_refused n config plan gap c.args.parts.now c.make_rows.new.parts rows c.in_err-make_plain_chains.field-0.0 c.in_ok-rows.ensures.makes
          (subst (λ (rs : List (List NetId)). IsRefusal (outcome (plain_chains n config plan gap rs) c.make_rows.new.parts) c.in_err-make_plain_chains.field-0.0) c.deref.ensures.value c.in_err-make_plain_chains.ensures.makes);
    })

pub returns : goal.returns
returns c =
    let n = c.args.design.now in
    let config = c.args.config.now in
    let plan = c.args.chains.now in
    let gap = c.args.gap.now in
    let rows = c.in_ok-rows.rows.items in
    record {
      makes = plain_made n config plan gap c.args.parts.now c.make_rows.new.parts c.make_plain_chains.new.parts rows c.make_plain_ends.result c.make_plain_ends.new.parts c.in_ok-rows.ensures.makes
          (subst (λ (rs : List (List NetId)). outcome (plain_chains n config plan gap rs) c.make_rows.new.parts ≡ Ok (tt, c.make_plain_chains.new.parts)) c.deref.ensures.value c.in_ok-make_plain_chains.ensures.makes)
          (subst (λ (rs : List (List NetId)). Makes (λ _. tt) (plain_ends config plan gap rs tt) c.make_plain_chains.new.parts c.make_plain_ends.result c.make_plain_ends.new.parts) c.deref-2.ensures.value c.make_plain_ends.ensures.makes);
    }
