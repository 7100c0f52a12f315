use Rattle.std.proofs.Common.{◌≡◌, ◌++◌, ◌∷◌, ◌∙◌, Bool, List, [], None, inr, ap, length, refl, subst, sym}
use Rattle.dft_base.specs.Solutions.{IsSolvable, StatesCertificate}
use Rattle.dft_netlist.specs.declared.ids.InstanceId.{InstanceId}
use Rattle.dft_merge.specs.Placement.{begun, equations_of, first_unscanned}
use Rattle.dft_merge.specs.LoadPlan.{columns_by, rows_by}
use Rattle.dft_merge.specs.Merging.{Merging, columns_in, rows_in}
use Rattle.dft_merge.specs.Systems.{IsRun}
use Rattle.dft_merge.proofs.SystemLemmas.{run_system, system_solvable}
use Rattle.dft_merge.proofs.MergerLemmas.{IsState, alone_stated, empty_again, state_opened, state_same}
use Rattle.dft_merge.proofs.merger.Merger.begin.Goals as goal

pub returns-then-not-add_cells-clause-placed : goal.returns-then-not-add_cells-clause-placed
returns-then-not-add_cells-clause-placed c =
    let n = columns_by c.self.inside.loads.now in
    let row = rows_by c.self.inside.loads.now in
    let scanned : first_unscanned row c.args.cube.now.cells ≡ None = subst (λ (m : Merging). first_unscanned (rows_in m) c.args.cube.now.cells ≡ None) (sym c.self.view_is) c.requires.scanned in
    let stated : StatesCertificate n (equations_of row c.args.cube.now.cells) c.in_ok-ids.ids.items =
    alone_stated n c.add_cells.new.system.columns c.self.inside.loads.now.plan.chains c.self.inside.loads.now.rows c.args.cube.now.cells c.as_slice.result.now c.self.inside.alone c.back_to.new.self c.add_cells.new.system
    c.self.inside.start c.in_ok-ids.ids.items c.soundness.ensures.rows refl c.as_slice.ensures scanned c.back_to.ensures c.self.invariant.start c.if-not-add_cells.ensures.added c.if-not-add_cells.ensures.columns c.in_ok-ids.ensures.stated in
    let named : StatesCertificate n (equations_of row c.args.cube.now.cells) c.from_vec.result = subst (StatesCertificate n (equations_of row c.args.cube.now.cells)) (sym c.from_vec.ensures) stated in
    subst (λ (m : Merging). (first_unscanned (rows_in m) c.args.cube.now.cells ≡ None) × StatesCertificate (columns_in m) (equations_of (rows_in m) c.args.cube.now.cells) c.from_vec.result × (c.self.inside.patterns.items ≡ m.patterns))
    c.self.view_is (scanned, named, refl)

pub invariant_of-self-in_err-open : goal.invariant_of-self-in_err-open
invariant_of-self-in_err-open c =
    let now : IsState (columns_by c.self.inside.loads.now) (rows_by c.self.inside.loads.now) c.self.inside.window c.open.new.patterns.items c.open.new.slots.items =
    state_same (columns_by c.self.inside.loads.now) (rows_by c.self.inside.loads.now) c.self.inside.window c.self.inside.patterns.items c.open.new.patterns.items c.self.inside.slots.items c.open.new.slots.items
    (record { count = c.self.invariant.count; open_ones = c.self.invariant.slots; loadable = c.self.invariant.loadable }) c.in_err-open.ensures.err_patterns c.in_err-open.ensures.err_slots in
    record {
      window = c.self.invariant.window;
      start = c.self.invariant.start;
      alone = c.in_err-open.ensures.columns;
      count = now.count;
      slots = now.open_ones;
      loadable = now.loadable;
    }

-- the equations of the cube alone
pub open-requires-clause-system : goal.open-requires-clause-system
open-requires-clause-system c =
    let n = columns_by c.self.inside.loads.now in
    let row = rows_by c.self.inside.loads.now in
    let run : IsRun n c.back_to.new.self.kept (equations_of row c.args.cube.now.cells) c.add_cells.new.system.kept [] =
    subst (λ (cells : List (InstanceId × Bool)). IsRun n c.back_to.new.self.kept (equations_of row cells) c.add_cells.new.system.kept []) c.as_slice.ensures c.if-not-add_cells.ensures.added in
    run_system n [] (equations_of row c.args.cube.now.cells) c.back_to.new.self c.add_cells.new.system
    (empty_again n c.self.inside.alone c.back_to.new.self c.self.inside.start c.self.invariant.alone c.self.invariant.start c.back_to.ensures) c.if-not-add_cells.ensures.columns run

-- the system of the cube alone
alone : (c : goal.In_ok-open) → IsSolvable (columns_by c.self.inside.loads.now) (equations_of (rows_by c.self.inside.loads.now) c.args.cube.now.cells)
alone c =
    let n = columns_by c.self.inside.loads.now in
    let row = rows_by c.self.inside.loads.now in
    let run : IsRun n c.back_to.new.self.kept (equations_of row c.args.cube.now.cells) c.add_cells.new.system.kept [] =
    subst (λ (cells : List (InstanceId × Bool)). IsRun n c.back_to.new.self.kept (equations_of row cells) c.add_cells.new.system.kept []) c.as_slice.ensures c.if-not-add_cells.ensures.added in
    system_solvable n (equations_of row c.args.cube.now.cells) c.add_cells.new.system
    (run_system n [] (equations_of row c.args.cube.now.cells) c.back_to.new.self c.add_cells.new.system
    (empty_again n c.self.inside.alone c.back_to.new.self c.self.inside.start c.self.invariant.alone c.self.invariant.start c.back_to.ensures) c.if-not-add_cells.ensures.columns run)

pub invariant_of-self-2 : goal.invariant_of-self-2
invariant_of-self-2 c =
    let n = columns_by c.self.inside.loads.now in
    let row = rows_by c.self.inside.loads.now in
    let scanned : first_unscanned row c.args.cube.now.cells ≡ None = subst (λ (m : Merging). first_unscanned (rows_in m) c.args.cube.now.cells ≡ None) (sym c.self.view_is) c.requires.scanned in
    let now : IsState n row c.self.inside.window c.open.new.patterns.items c.open.new.slots.items =
    state_opened n row c.self.inside.window c.self.inside.patterns.items c.open.new.patterns.items c.args.cube.now c.self.inside.slots.items c.open.new.slots.items
    (record { count = c.self.invariant.count; open_ones = c.self.invariant.slots; loadable = c.self.invariant.loadable }) scanned (alone c) c.in_ok-open.ensures.ok c.in_ok-open.ensures.slots c.in_ok-open.ensures.count in
    record {
      window = c.self.invariant.window;
      start = c.self.invariant.start;
      alone = c.in_ok-open.ensures.columns;
      count = now.count;
      slots = now.open_ones;
      loadable = now.loadable;
    }

pub returns-clause-placed : goal.returns-clause-placed
returns-clause-placed c = (
  c.requires.scanned,
  inr (record {
    alone = c.requires.none;
    solvable = subst (λ (m : Merging). IsSolvable (columns_in m) (equations_of (rows_in m) c.args.cube.now.cells)) c.self.view_is (alone c);
    number = c.len-number.ensures ∙ c.self.inside.patterns.ok.0 ∙ ap (λ (m : Merging). length m.patterns) c.self.view_is;
    patterns = c.in_ok-open.ensures.ok ∙ ap (λ (m : Merging). m.patterns ++ begun c.args.cube.now ∷ []) c.self.view_is;
  }),
)
