use Rattle.std.proofs.Common.{◌≡◌, ◌-◌, List, None, IfOk, ap, length, arith, subst, sym}
use Rattle.std.specs.Vec.{with_items}
use Rattle.dft_cubes.specs.declared.cube.Merged.{Merged}
use Rattle.dft_merge.specs.Placement.{first_unscanned}
use Rattle.dft_merge.specs.LoadPlan.{columns_by, rows_by}
use Rattle.dft_merge.specs.Merging.{Merging, columns_in, rows_in}
use Rattle.dft_merge.proofs.BitLemmas.{filled}
use Rattle.dft_merge.proofs.MergerLemmas.{IsState, Said, said_all, state_same, state_tried}
use Rattle.dft_merge.proofs.merger.Merger.join.Goals as goal

-- what holds of the slots and patterns that were lent
lent : (c : goal.After-self-2-1) → IsState (columns_by c.self.inside.loads.now) (rows_by c.self.inside.loads.now) c.self.inside.window c.deref_mut-2.result.now c.deref_mut.result.now
lent c = state_same (columns_by c.self.inside.loads.now) (rows_by c.self.inside.loads.now) c.self.inside.window c.self.inside.patterns.items c.deref_mut-2.result.now c.self.inside.slots.items c.deref_mut.result.now
    (record { count = c.self.invariant.count; open_ones = c.self.invariant.slots; loadable = c.self.invariant.loadable }) c.deref_mut-2.ensures.value c.deref_mut.ensures.value

first : (c : goal.After-self-2-1) → c.len.result - c.len-2.result ≡ length c.deref_mut-2.result.now - length c.deref_mut.result.now
first c =
    let a = c.self.inside.patterns.ok.0 in
    let b = c.self.inside.slots.ok.0 in
    let p = ap length c.deref_mut-2.ensures.value in
    let s = ap length c.deref_mut.ensures.value in
    omega (arith, c.len.ensures, c.len-2.ensures)

pub invariant_of-self : goal.invariant_of-self
invariant_of-self c =
    let n = columns_by c.self.inside.loads.now in
    let row = rows_by c.self.inside.loads.now in
    let scanned : first_unscanned row c.args.cube.now.cells ≡ None = subst (λ (m : Merging). first_unscanned (rows_in m) c.args.cube.now.cells ≡ None) (sym c.self.view_is) c.requires.scanned in
    let now : IsState n row c.self.inside.window c.join_first.new.patterns c.join_first.new.slots =
    state_tried n row c.self.inside.window (c.len.result - c.len-2.result) c.deref_mut-2.result.now c.join_first.new.patterns c.args.cube.now c.deref_mut.result.now c.join_first.new.slots c.join_first.result
    (lent c) (first c) scanned c.join_first.ensures.slots c.join_first.ensures.joined c.join_first.ensures.err in
    let new : IsState n row c.self.inside.window (with_items c.self.inside.patterns c.join_first.new.patterns).items (with_items c.self.inside.slots c.join_first.new.slots).items =
    state_same n row c.self.inside.window c.join_first.new.patterns (with_items c.self.inside.patterns c.join_first.new.patterns).items c.join_first.new.slots (with_items c.self.inside.slots c.join_first.new.slots).items now
    (filled c.self.inside.patterns c.join_first.new.patterns c.deref_mut-2.result.now c.join_first.auto.patterns c.deref_mut-2.ensures.value)
    (filled c.self.inside.slots c.join_first.new.slots c.deref_mut.result.now c.join_first.auto.slots c.deref_mut.ensures.value) in
    record {
      window = c.self.invariant.window;
      start = c.self.invariant.start;
      alone = c.self.invariant.alone;
      count = new.count;
      slots = new.open_ones;
      loadable = new.loadable;
    }

pub returns-clause-joined : goal.returns-clause-joined
returns-clause-joined c =
    let n = columns_by c.self.inside.loads.now in
    let row = rows_by c.self.inside.loads.now in
    let told : IfOk c.join_first.result (Said n row c.self.inside.window c.deref_mut-2.result.now c.args.cube.now c.join_first.new.patterns) =
    said_all n row c.self.inside.window (c.len.result - c.len-2.result) c.deref_mut-2.result.now c.args.cube.now c.join_first.new.patterns c.deref_mut.result.now c.join_first.result (lent c).count (first c) c.join_first.ensures.joined in
    let new : List Merged = (with_items c.self.inside.patterns c.join_first.new.patterns).items in
    let said : IfOk c.join_first.result (Said n row c.self.inside.window c.self.inside.patterns.items c.args.cube.now new) =
    subst (λ (ps : List Merged). IfOk c.join_first.result (Said n row c.self.inside.window ps c.args.cube.now new)) c.deref_mut-2.ensures.value
    (subst (λ (ps : List Merged). IfOk c.join_first.result (Said n row c.self.inside.window c.deref_mut-2.result.now c.args.cube.now ps))
    (sym (filled c.self.inside.patterns c.join_first.new.patterns c.deref_mut-2.result.now c.join_first.auto.patterns c.deref_mut-2.ensures.value)) told) in
    subst (λ (m : Merging). IfOk c.join_first.result (Said (columns_in m) (rows_in m) m.window m.patterns c.args.cube.now new)) c.self.view_is said
