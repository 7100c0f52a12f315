use Rattle.std.proofs.Common.{◌∙◌, Bool, List, ap, length, refl, subst, sym, take}
use Rattle.dft_netlist.specs.declared.ids.InstanceId.{InstanceId}
use Rattle.dft_gf2.specs.Elimination.{Elimination}
use Rattle.dft_cubes.specs.declared.cube.Merged.{Merged}
use Rattle.dft_merge.specs.Placement.{equations_of}
use Rattle.dft_merge.specs.LoadPlan.{columns_by, rows_by}
use Rattle.dft_merge.specs.Systems.{IsRefused, IsSystem}
use Rattle.dft_merge.proofs.SlotLemmas.{fits_not, slot_fits, slot_joined, system_back}
use Rattle.dft_merge.proofs.joining.join.Goals as goal

pub returns-then-not-add_cells-clause-slot : goal.returns-then-not-add_cells-clause-slot
returns-then-not-add_cells-clause-slot c =
    let n = columns_by c.args.loads.now in
    let row = rows_by c.args.loads.now in
    record {
      system = system_back n (equations_of row c.args.pattern.now.cells) c.args.slot.now.system c.add_cells.new.system c.back_to.new.self c.mark-mark.result c.requires.slot.system
          c.if-not-add_cells.ensures.columns c.if-not-add_cells.ensures.added.front c.mark-mark.ensures c.back_to.ensures;
      cells = c.requires.slot.cells;
      ports = c.requires.slot.ports;
    }

pub returns-then-not-add_cells-clause-joined : goal.returns-then-not-add_cells-clause-joined
returns-then-not-add_cells-clause-joined c =
    let n = columns_by c.args.loads.now in
    let row = rows_by c.args.loads.now in
    let refused : IsRefused n (equations_of row c.args.cube.now.cells) c.args.slot.now.system c.add_cells.new.system =
    subst (λ (cells : List (InstanceId × Bool)). IsRefused n (equations_of row cells) c.args.slot.now.system c.add_cells.new.system) c.as_slice.ensures c.if-not-add_cells.ensures.added in
    (fits_not n row c.args.pattern.now c.args.cube.now c.args.slot.now.system c.add_cells.new.system c.requires.slot.system refused, refl)

pub returns-in-Ok-clause-slot : goal.returns-in-Ok-clause-slot
returns-in-Ok-clause-slot c =
    slot_joined (columns_by c.args.loads.now) (rows_by c.args.loads.now) c.args.pattern.now c.give.new.pattern c.args.cube.now c.args.slot.now c.give.new.slot c.as_slice.result.now c.add_cells.new.system
    c.opposes.result c.deref.result.now c.deref-else-not-are.result.now c.requires.slot c.deref.ensures.value c.deref-else-not-are.ensures.value c.opposes.ensures c.if-opposes.false
    c.as_slice.ensures c.if-not-add_cells.ensures.columns c.if-not-add_cells.ensures.added c.in-Ok.ensures.ok c.in-Ok.ensures.system c.in-Ok.ensures.cells c.in-Ok.ensures.ports

pub returns-in-Ok-clause-joined : goal.returns-in-Ok-clause-joined
returns-in-Ok-clause-joined c = (
  slot_fits (columns_by c.args.loads.now) (rows_by c.args.loads.now) c.args.pattern.now c.args.cube.now c.args.slot.now c.as_slice.result.now c.add_cells.new.system
      c.opposes.result c.deref.result.now c.deref-else-not-are.result.now c.requires.slot c.if-not-are.ensures c.deref.ensures.value c.deref-else-not-are.ensures.value c.opposes.ensures c.if-opposes.false
      c.as_slice.ensures c.if-not-add_cells.ensures.columns c.if-not-add_cells.ensures.added,
  c.in-Ok.ensures.ok,
)

pub returns-in-Err-clause-slot : goal.returns-in-Err-clause-slot
returns-in-Err-clause-slot c =
    let n = columns_by c.args.loads.now in
    let row = rows_by c.args.loads.now in
    record {
      system = subst (λ (m : Merged). IsSystem n (equations_of row m.cells) c.back_to-in-Err.new.self) (sym c.in-Err.ensures.err)
          (system_back n (equations_of row c.args.pattern.now.cells) c.args.slot.now.system c.give.new.slot.system c.back_to-in-Err.new.self c.mark-mark.result c.requires.slot.system
          (ap (λ (s : Elimination). s.columns) c.in-Err.ensures.system ∙ c.if-not-add_cells.ensures.columns)
          (ap (λ (s : Elimination). take (length c.args.slot.now.system.kept) s.kept) c.in-Err.ensures.system ∙ c.if-not-add_cells.ensures.added.front) c.mark-mark.ensures c.back_to-in-Err.ensures);
      cells = c.in-Err.ensures.cells;
      ports = c.in-Err.ensures.ports;
    }
