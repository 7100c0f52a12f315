use Rattle.std.proofs.Common.{◌<◌, ◌≡◌, ℕ, List, [], length, get_or, map, Some, slice_get, sym, ap, ◌∙◌, arith}
use Rattle.std.proofs.lemmas.List.{get_or_read}
use Rattle.std.proofs.lemmas.Option.{slice_get-get_or}
use Rattle.std.proofs.lemmas.Result.{err_from_is_err_and}
use Rattle.dft_modules.specs.Modules.{Module}
use Rattle.dft_hier.proofs.NumberLemmas.{graph_count}
use Rattle.dft_hier.proofs.FitLemmas.{paired_at, misfits_next, misfits_here, misfits_none}
use Rattle.dft_hier.proofs.fitting.check_all.Goals as goal

pub check_module-requires-clause-children : goal.check_module-requires-clause-children
check_module-requires-clause-children c =
    let ms : List Module = c.args.modules.now in
    let k = c.loop-number.number in
    let m = c.index-modules-number.result in
    let size = ap (λ (g : List (List ℕ)). length g) c.requires.children ∙ graph_count ms in
    let live : k < length c.args.children.now = omega (arith, size, c.loop-number-test.true) in
    let at : slice_get ms k ≡ Some m = slice_get-get_or ms k m c.loop-number-test.true ∙ ap (λ (x : Module). Some x) (sym c.index-modules-number.is) in
    let same : c.as_slice.result.now ≡ get_or c.args.children.now k [] = c.as_slice.ensures ∙ get_or_read c.args.children.now k c.index-children-number.result live c.index-children-number.is [] in
    paired_at ms k m c.requires.known at ∙ ap (λ (g : List (List ℕ)). map Some (get_or g k [])) (sym c.requires.children) ∙ ap (λ (xs : List ℕ). map Some xs) (sym same)

pub returns-in_err-check_module-clause-refused : goal.returns-in_err-check_module-clause-refused
returns-in_err-check_module-clause-refused c =
    let p = err_from_is_err_and c.from_residual.result c.from_residual.ensures.1 in
    rw (p.1, p.2) (misfits_here c.args.modules.now c.loop-number.number c.index-modules-number.result c.in_err-check_module.field-0.0 c.loop-number-test.true c.index-modules-number.is c.loop-number.invariant c.in_err-check_module.ensures.refused)

pub loop-number-preserved : goal.loop-number-preserved
loop-number-preserved c = misfits_next c.args.modules.now c.loop-number.number c.index-modules-number.result c.loop-number-test.true c.index-modules-number.is c.in_ok-check_module.ensures.ok c.loop-number.invariant

pub returns-clause-ok : goal.returns-clause-ok
returns-clause-ok c = misfits_none c.args.modules.now c.loop-number.number c.loop-number-test.false c.loop-number.invariant
