use Rattle.std.specs.Vec.{with_items}
use Rattle.dft_merge.specs.LoadPlan.{columns_by, rows_by}
use Rattle.dft_merge.proofs.SlotLemmas.{Opened, opened_all, slots_columns}
use Rattle.std.proofs.Common.{◌-◌, length}
use Rattle.dft_merge.proofs.opening.open.Goals as goal

opens : (c : goal.After-slots-1) →
    Opened (columns_by c.args.loads.now) (rows_by c.args.loads.now) c.args.window c.args.slots.now.items c.put.new.patterns.items (with_items c.make_room.new.slots c.put.new.slots).items c.put.new.system
opens c =
    opened_all (columns_by c.args.loads.now) (rows_by c.args.loads.now) c.args.window c.args.cube.now c.in_ok-draft.draft.cells.items c.in_ok-draft.draft.ports.items c.args.system.now c.args.slots.now.items
    c.make_room.new.slots c.deref_mut.result.now c.args.patterns.now.items c.make_room.new.patterns.items c.put.new.patterns.items c.in_ok-draft.draft.pattern c.put.new.system c.put.new.slots
    c.requires.window c.requires.few c.requires.slots c.in_ok-make_room.ensures.ok c.deref_mut.ensures.value c.put.ensures.put c.put.auto.slots c.requires.system
    c.in_ok-draft.ensures.cells c.in_ok-draft.ensures.ports c.put.ensures.patterns c.in_ok-make_room.ensures.patterns c.in_ok-draft.ensures.pattern

pub make_room-requires-clause-columns : goal.make_room-requires-clause-columns
make_room-requires-clause-columns c =
    slots_columns (columns_by c.args.loads.now) (rows_by c.args.loads.now) (length c.args.patterns.now.items - length c.args.slots.now.items) c.args.patterns.now.items c.args.slots.now.items c.requires.slots

pub returns-clause-columns : goal.returns-clause-columns
returns-clause-columns c = (opens c).columns

pub returns-clause-slots : goal.returns-clause-slots
returns-clause-slots c = (opens c).slots

pub returns-clause-count : goal.returns-clause-count
returns-clause-count c = (opens c).count
