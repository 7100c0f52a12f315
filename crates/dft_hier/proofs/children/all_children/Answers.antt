use Rattle.std.proofs.Common.{◌≡◌, ◌++◌, ◌∷◌, [], ℕ, List, cond, is_ok, sym, ap, ◌∙◌}
use Rattle.std.proofs.lemmas.Result.{err_from_is_err_and}
use Rattle.dft_hier.proofs.NumberLemmas.{all_next, all_lost, all_found, all_known}
use Rattle.dft_hier.proofs.children.all_children.Goals as goal

pub returns-in_err-children_in-clause-refused : goal.returns-in_err-children_in-clause-refused
returns-in_err-children_in-clause-refused c =
    let p = err_from_is_err_and c.from_residual-in_err-children_in.result c.from_residual-in_err-children_in.ensures.1 in
    rw (p.1, p.2) (all_lost c.args.numbers.now c.args.modules.now c.owner-item.result c.loop-owner.owner-index c.loop-owner.all.items c.in_err-children_in.field-0.0 c.requires c.loop-owner-test.true c.owner-item.is c.loop-owner.invariant c.in_err-children_in.ensures.refused)

pub loop-owner-preserved : goal.loop-owner-preserved
loop-owner-preserved c =
    let old : List (List ℕ) = c.loop-owner.all.items in
    let children : List ℕ = c.in_ok-children_in.field-0 in
    let pushed : c.push.new.self.items ≡ old ++ children ∷ [] =
    c.push.ensures.items ∙ ap (λ b. cond b (old ++ children ∷ []) old) (sym c.map_err.ensures.variant ∙ ap is_ok c.in_ok-map_err.was) in
    all_next c.args.numbers.now c.args.modules.now c.owner-item.result c.loop-owner.owner-index old c.push.new.self.items children c.requires c.loop-owner-test.true c.owner-item.is c.in_ok-children_in.ensures.ok pushed c.in_ok-children_in.ensures.known c.loop-owner.invariant

pub returns-clause-ok : goal.returns-clause-ok
returns-clause-ok c = all_found c.args.modules.now c.loop-owner.owner-index c.loop-owner.all.items c.loop-owner-test.false c.loop-owner.invariant

pub returns-clause-known : goal.returns-clause-known
returns-clause-known c = all_known c.args.modules.now c.loop-owner.owner-index c.loop-owner.all.items c.loop-owner-test.false c.loop-owner.invariant
