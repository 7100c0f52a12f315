use Rattle.std.proofs.Common.{◌<◌, ◌≡◌, List, [], length, get_or, Some, None, slice_get, option_copied, sym, ap, subst, ◌∙◌, arith, rules}
use Rattle.std.proofs.lemmas.List.{get_or_read}
use Rattle.std.proofs.lemmas.Option.{slice_get-get_or}
use Rattle.std.proofs.lemmas.Result.{err_from_is_err_and}
use Rattle.dft_modules.specs.Modules.{Module}
use Rattle.dft_hier.specs.Hierarchy.{sub_of}
use Rattle.dft_numbered.specs.Numbers.{Entry, Finds}
use Rattle.dft_hier.specs.Numbers.{port_names}
use Rattle.dft_hier.proofs.NumberLemmas.{number_within}
use Rattle.dft_hier.proofs.FitLemmas.{next_child, checked_next, checked_over, misfit_here, checked_all, found_child}
use Rattle.dft_hier.proofs.fitting.check_module.Goals.{in-Some+in_ok-check_sub, in_default}
use Rattle.dft_hier.proofs.fitting.check_module.Goals as goal

pub bounds-modules-child : goal.bounds-modules-child
bounds-modules-child c =
    let items = c.args.owner.now.items in
    let less : c.loop-item.item-index < length items = rw (← c.items-item-items.ensures) c.loop-item-test.true in
    let is : c.item-item.result ≡ get_or items c.loop-item.item-index c.item-item.result = rw c.items-item-items.ensures at c.item-item.is in
    let sub : sub_of c.item-item.result ≡ Some c.in-Some.sub.now = sym c.sub_in.ensures ∙ ap option_copied c.in-Some.is in
    let here = next_child c.args.modules.now items c.args.children.now c.loop-item.item-index c.loop-item.next c.item-item.result c.in-Some.sub.now less is sub c.loop-item.invariant in
    number_within c.args.modules.now c.in-Some.sub.now.of (get_or c.args.children.now c.loop-item.next 0) here.is

pub offset_bounds-modules-child : goal.offset_bounds-modules-child
offset_bounds-modules-child c =
    let items = c.args.owner.now.items in
    let less : c.loop-item.item-index < length items = rw (← c.items-item-items.ensures) c.loop-item-test.true in
    let is : c.item-item.result ≡ get_or items c.loop-item.item-index c.item-item.result = rw c.items-item-items.ensures at c.item-item.is in
    let sub : sub_of c.item-item.result ≡ Some c.in-Some.sub.now = sym c.sub_in.ensures ∙ ap option_copied c.in-Some.is in
    let here = next_child c.args.modules.now items c.args.children.now c.loop-item.item-index c.loop-item.next c.item-item.result c.in-Some.sub.now less is sub c.loop-item.invariant in
    let live : get_or c.args.children.now c.loop-item.next 0 < length c.args.modules.now = number_within c.args.modules.now c.in-Some.sub.now.of (get_or c.args.children.now c.loop-item.next 0) here.is in
    search rules

pub bounds-ports-child : goal.bounds-ports-child
bounds-ports-child c =
    let items = c.args.owner.now.items in
    let less : c.loop-item.item-index < length items = rw (← c.items-item-items.ensures) c.loop-item-test.true in
    let is : c.item-item.result ≡ get_or items c.loop-item.item-index c.item-item.result = rw c.items-item-items.ensures at c.item-item.is in
    let sub : sub_of c.item-item.result ≡ Some c.in-Some.sub.now = sym c.sub_in.ensures ∙ ap option_copied c.in-Some.is in
    let here = next_child c.args.modules.now items c.args.children.now c.loop-item.item-index c.loop-item.next c.item-item.result c.in-Some.sub.now less is sub c.loop-item.invariant in
    let live = number_within c.args.modules.now c.in-Some.sub.now.of (get_or c.args.children.now c.loop-item.next 0) here.is in
    let count = c.requires.ports.count in
    omega arith

pub offset_bounds-ports-child : goal.offset_bounds-ports-child
offset_bounds-ports-child c =
    let items = c.args.owner.now.items in
    let less : c.loop-item.item-index < length items = rw (← c.items-item-items.ensures) c.loop-item-test.true in
    let is : c.item-item.result ≡ get_or items c.loop-item.item-index c.item-item.result = rw c.items-item-items.ensures at c.item-item.is in
    let sub : sub_of c.item-item.result ≡ Some c.in-Some.sub.now = sym c.sub_in.ensures ∙ ap option_copied c.in-Some.is in
    let here = next_child c.args.modules.now items c.args.children.now c.loop-item.item-index c.loop-item.next c.item-item.result c.in-Some.sub.now less is sub c.loop-item.invariant in
    let live = number_within c.args.modules.now c.in-Some.sub.now.of (get_or c.args.children.now c.loop-item.next 0) here.is in
    let count = c.requires.ports.count in
    let there : get_or c.args.children.now c.loop-item.next 0 < length c.args.ports.now = omega arith in
    search rules

pub check_sub-requires : goal.check_sub-requires
check_sub-requires c =
    let items = c.args.owner.now.items in
    let less : c.loop-item.item-index < length items = rw (← c.items-item-items.ensures) c.loop-item-test.true in
    let is : c.item-item.result ≡ get_or items c.loop-item.item-index c.item-item.result = rw c.items-item-items.ensures at c.item-item.is in
    let sub : sub_of c.item-item.result ≡ Some c.in-Some.sub.now = sym c.sub_in.ensures ∙ ap option_copied c.in-Some.is in
    let here = next_child c.args.modules.now items c.args.children.now c.loop-item.item-index c.loop-item.next c.item-item.result c.in-Some.sub.now less is sub c.loop-item.invariant in
    let child = get_or c.args.children.now c.loop-item.next 0 in
    let m = c.index-modules-child.result in
    let live = number_within c.args.modules.now c.in-Some.sub.now.of child here.is in
    let count = c.requires.ports.count in
    let there : child < length c.args.ports.now = omega arith in
    let at : slice_get c.args.modules.now child ≡ Some m = slice_get-get_or c.args.modules.now child m live ∙ ap (λ (x : Module). Some x) (sym c.index-modules-child.is) in
    subst (λ (es : List Entry). Finds es (port_names m.ports)) (sym (get_or_read c.args.ports.now child c.index-ports-child.result there c.index-ports-child.is [])) (c.requires.ports.each child m at)

pub returns-in_err-check_sub-clause-refused : goal.returns-in_err-check_sub-clause-refused
returns-in_err-check_sub-clause-refused c =
    let items = c.args.owner.now.items in
    let less : c.loop-item.item-index < length items = rw (← c.items-item-items.ensures) c.loop-item-test.true in
    let is : c.item-item.result ≡ get_or items c.loop-item.item-index c.item-item.result = rw c.items-item-items.ensures at c.item-item.is in
    let sub : sub_of c.item-item.result ≡ Some c.in-Some.sub.now = sym c.sub_in.ensures ∙ ap option_copied c.in-Some.is in
    let here = next_child c.args.modules.now items c.args.children.now c.loop-item.item-index c.loop-item.next c.item-item.result c.in-Some.sub.now less is sub c.loop-item.invariant in
    let m = c.index-modules-child.result in
    let found = found_child c.args.modules.now c.in-Some.sub.now (get_or c.args.children.now c.loop-item.next 0) m here.is c.index-modules-child.is in
    let p = err_from_is_err_and c.from_residual.result c.from_residual.ensures.1 in
    rw (p.1, p.2) (misfit_here c.args.modules.now items c.args.children.now c.loop-item.item-index c.loop-item.next c.item-item.result c.in-Some.sub.now m c.in_err-check_sub.field-0.0 less is sub found c.loop-item.invariant c.in_err-check_sub.ensures.refused)

pub loop-item-preserved : goal.loop-item-preserved
loop-item-preserved c =
    let items = c.args.owner.now.items in
    let less : c.loop-item.item-index < length items = rw (← c.items-item-items.ensures) c.loop-item-test.true in
    let is : c.item-item.result ≡ get_or items c.loop-item.item-index c.item-item.result = rw c.items-item-items.ensures at c.item-item.is in
    elim c.match-sub_in.branch [
      | in-Some+in_ok-check_sub w ↦ (
          let sub : sub_of c.item-item.result ≡ Some w.in-Some.sub.now = sym c.sub_in.ensures ∙ ap option_copied w.in-Some.is in
          let here = next_child c.args.modules.now items c.args.children.now c.loop-item.item-index c.loop-item.next c.item-item.result w.in-Some.sub.now less is sub c.loop-item.invariant in
          let m = w.index-modules-child.result in
          let found = found_child c.args.modules.now w.in-Some.sub.now (get_or c.args.children.now c.loop-item.next 0) m here.is w.index-modules-child.is in
          rw w.next-is (checked_next c.args.modules.now items c.args.children.now c.loop-item.item-index c.loop-item.next c.item-item.result w.in-Some.sub.now m less is sub found w.in_ok-check_sub.ensures.ok c.loop-item.invariant)
          )
      | in_default w ↦ (
          let none : sub_of c.item-item.result ≡ None = sym c.sub_in.ensures ∙ ap option_copied w.in_default.is in
          rw w.next-is (checked_over c.args.modules.now items c.args.children.now c.loop-item.item-index c.loop-item.next c.item-item.result less is none c.loop-item.invariant)
          )
    ]

pub returns-clause-ok : goal.returns-clause-ok
returns-clause-ok c = checked_all c.args.modules.now c.args.owner.now.items c.args.children.now c.loop-item.item-index c.loop-item.next (rw (← c.items-item-items.ensures) c.loop-item-test.false) c.loop-item.invariant
