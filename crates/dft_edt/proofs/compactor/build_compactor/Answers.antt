use Rattle.std.proofs.Common.{◌≡◌, ℕ, List, Ok, length, subst}
use Rattle.std.proofs.lemmas.Result.{err_from_is_err_and}
use Rattle.dft_netlist.specs.declared.ids.NetId.{NetId}
use Rattle.dft_parts.specs.Recipes.{outcome, IsRefusal, Makes}
use Rattle.dft_edt.specs.declared.mask_nets.MaskNets.{MaskNets}
use Rattle.dft_edt.proofs.Making.{gated_of, outputs_of, compactor_made, masks_refused, gated_refused}
use Rattle.dft_edt.proofs.compactor.build_compactor.Goals as goal

pub returns-in_err-masks-clause-makes : goal.returns-in_err-masks-clause-makes
returns-in_err-masks-clause-makes c =
    let p = err_from_is_err_and c.from_residual.result c.from_residual.ensures.1 in
    rw (p.1, p.2) (masks_refused c.args.config.now c.args.ports.now c.args.run c.args.ends.now c.args.parts.now c.in_err-masks.field-0.0 c.in_err-masks.ensures.makes)

pub returns-in_err-gated-clause-makes : goal.returns-in_err-gated-clause-makes
returns-in_err-gated-clause-makes c =
    let p = err_from_is_err_and c.from_residual-in_err-gated.result c.from_residual-in_err-gated.ensures.1 in
    let masks = c.in_ok-masks.masks.items in
    rw (p.1, p.2)
    (gated_refused c.args.config.now c.args.ports.now c.args.run c.args.ends.now c.args.parts.now c.make_masks.new.parts masks c.in_err-gated.field-0.0 c.in_ok-masks.ensures.makes
    (subst (λ (n : ℕ). IsRefusal (outcome (gated_of c.args.ends.now n masks) c.make_masks.new.parts) c.in_err-gated.field-0.0) c.requires.chains
    (subst (λ (ms : List MaskNets). IsRefusal (outcome (gated_of c.args.ends.now (length c.args.ends.now) ms) c.make_masks.new.parts) c.in_err-gated.field-0.0) c.deref.ensures.value c.in_err-gated.ensures.makes)))

pub returns-clause-makes : goal.returns-clause-makes
returns-clause-makes c =
    let masks = c.in_ok-masks.masks.items in
    let gated = c.in_ok-gated.gated.items in
    compactor_made c.args.config.now c.args.ports.now c.args.run c.args.ends.now c.args.parts.now c.make_masks.new.parts c.make_gated.new.parts masks gated c.make_outputs.result c.make_outputs.new.parts c.in_ok-masks.ensures.makes
    (subst (λ (n : ℕ). outcome (gated_of c.args.ends.now n masks) c.make_masks.new.parts ≡ Ok (gated, c.make_gated.new.parts)) c.requires.chains
    (subst (λ (ms : List MaskNets). outcome (gated_of c.args.ends.now (length c.args.ends.now) ms) c.make_masks.new.parts ≡ Ok (gated, c.make_gated.new.parts)) c.deref.ensures.value c.in_ok-gated.ensures.makes))
    (subst (λ (ns : List NetId). Makes (λ _. tt) (outputs_of c.args.config.now c.args.ports.now ns) c.make_gated.new.parts c.make_outputs.result c.make_outputs.new.parts) c.deref-2.ensures.value c.make_outputs.ensures.makes)
