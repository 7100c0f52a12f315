use Rattle.std.proofs.Common.{◌≡◌, ◌-◌, ◌<◌, ◌∙◌, Bool, List, None, Some, IfOk, ap, arith, length, refl, slice_get, subst, sym}
use Rattle.std.proofs.lemmas.Option.{slice_get_read}
use Rattle.dft_base.specs.Solutions.{IsChosen, IsSolvable, bit_at}
use Rattle.dft_netlist.specs.declared.ids.InstanceId.{InstanceId}
use Rattle.dft_lanes.specs.Rows.{bits_of}
use Rattle.dft_cubes.specs.declared.cube.Merged.{Merged}
use Rattle.dft_merge.specs.Placement.{Loads, equations_of, first_unscanned}
use Rattle.dft_merge.specs.LoadPlan.{columns_by, rows_by}
use Rattle.dft_merge.specs.Slots.{IsLoadable, IsSlot}
use Rattle.dft_merge.specs.Merging.{Merging, columns_in, rows_in}
use Rattle.dft_merge.specs.Systems.{IsSystem}
use Rattle.dft_merge.proofs.MergerLemmas.{chosen_all, loads_all, packed_all, slot_at}
use Rattle.dft_merge.proofs.merger.Merger.channel_bits.Given as given
use Rattle.dft_merge.proofs.merger.Merger.channel_bits.Goals as goal

pub solve-requires-clause-columns : goal.solve-requires-clause-columns
solve-requires-clause-columns g c =
    let a = c.self.inside.patterns.ok.0 in
    let b = c.self.inside.slots.ok.0 in
    let within : c.args.pattern < length c.self.inside.patterns.items = subst (λ (m : Merging). c.args.pattern < length m.patterns) (sym c.self.view_is) c.requires.pattern in
    let at = slot_at (columns_by c.self.inside.loads.now) (rows_by c.self.inside.loads.now) (length c.self.inside.patterns.items - length c.self.inside.slots.items) (c.len.result - c.len-2.result) c.args.pattern c.self.inside.patterns.items c.self.inside.slots.items
    c.index.result.now c.self.invariant.slots (omega (arith, c.len.ensures, c.len-2.ensures)) c.if-first-pattern.true within c.index.ensures in
    c.requires.columns ∙ sym (ap columns_in c.self.view_is) ∙ sym at.1.1.system.columns

-- the pattern that is asked for, which is open, with its slot
open_one : (g : given.Over) (c : goal.After-solve g) → (pattern : Merged) × ((slice_get c.self.inside.patterns.items c.args.pattern ≡ Some pattern) × IsSlot (columns_by c.self.inside.loads.now) (rows_by c.self.inside.loads.now) pattern c.index.result.now)
open_one g c =
    let a = c.self.inside.patterns.ok.0 in
    let b = c.self.inside.slots.ok.0 in
    let within : c.args.pattern < length c.self.inside.patterns.items = subst (λ (m : Merging). c.args.pattern < length m.patterns) (sym c.self.view_is) c.requires.pattern in
    slot_at (columns_by c.self.inside.loads.now) (rows_by c.self.inside.loads.now) (length c.self.inside.patterns.items - length c.self.inside.slots.items) (c.len.result - c.len-2.result) c.args.pattern c.self.inside.patterns.items c.self.inside.slots.items
    c.index.result.now c.self.invariant.slots (omega (arith, c.len.ensures, c.len-2.ensures)) c.if-first-pattern.true within c.index.ensures

pub returns-then-first-pattern-clause-packed : goal.returns-then-first-pattern-clause-packed
returns-then-first-pattern-clause-packed g c =
    packed_all (columns_in c.args.self.now) c.index.result.now.system.columns c.solve.result ((open_one g c).1.1.system.columns ∙ ap columns_in c.self.view_is) c.solve.ensures.packed

pub returns-then-first-pattern-clause-chosen : goal.returns-then-first-pattern-clause-chosen
returns-then-first-pattern-clause-chosen g c =
    let at = open_one g c in
    subst (λ (m : Merging). IfOk c.solve.result (λ words. (merged : Merged) → slice_get m.patterns c.args.pattern ≡ Some merged →
    IsChosen (columns_in m) (equations_of (rows_in m) merged.cells) c.args.fill.now.like.now (bits_of (columns_in m) words.items))) c.self.view_is
    (chosen_all (columns_by c.self.inside.loads.now) (rows_by c.self.inside.loads.now) c.self.inside.patterns.items c.args.pattern at.0 c.index.result.now.system c.args.fill.now.like.now c.solve.result at.1.1.system at.1.0 c.solve.ensures.chosen)

pub returns-then-first-pattern-clause-loads : goal.returns-then-first-pattern-clause-loads
returns-then-first-pattern-clause-loads g c =
    let at = open_one g c in
    subst (λ (m : Merging). IfOk c.solve.result (λ words. (merged : Merged) → slice_get m.patterns c.args.pattern ≡ Some merged → Loads (columns_in m) (rows_in m) (bit_at (bits_of (columns_in m) words.items)) merged.cells)) c.self.view_is
    (loads_all (columns_by c.self.inside.loads.now) (rows_by c.self.inside.loads.now) c.self.inside.patterns.items c.args.pattern at.0 c.index.result.now.system c.solve.result at.1.1.system at.1.0 c.solve.ensures.solves)

-- a closed pattern is one of the patterns, and can be loaded
closed_is : (g : given.Over) (c : goal.After-as_slice g) → slice_get c.self.inside.patterns.items c.args.pattern ≡ Some c.index-else-first-pattern.result.now
closed_is g c =
    let within : c.args.pattern < length c.self.inside.patterns.items = subst (λ (m : Merging). c.args.pattern < length m.patterns) (sym c.self.view_is) c.requires.pattern in
    slice_get_read c.self.inside.patterns.items (length c.self.inside.patterns.items) c.args.pattern c.index-else-first-pattern.result.now refl within c.index-else-first-pattern.ensures

loadable : (g : given.Over) (c : goal.After-as_slice g) → IsLoadable (columns_by c.self.inside.loads.now) (rows_by c.self.inside.loads.now) c.index-else-first-pattern.result.now
loadable g c = c.self.invariant.loadable c.args.pattern c.index-else-first-pattern.result.now (closed_is g c)

pub system_of-requires-clause-scanned : goal.system_of-requires-clause-scanned
system_of-requires-clause-scanned g c =
    subst (λ (cells : List (InstanceId × Bool)). first_unscanned (rows_by c.self.inside.loads.now) cells ≡ None) (sym c.as_slice.ensures) (loadable g c).scanned

pub system_of-requires-clause-solvable : goal.system_of-requires-clause-solvable
system_of-requires-clause-solvable g c =
    subst (λ (cells : List (InstanceId × Bool)). IsSolvable (columns_by c.self.inside.loads.now) (equations_of (rows_by c.self.inside.loads.now) cells)) (sym c.as_slice.ensures) (loadable g c).solvable

pub returns-in_ok-system-clause-chosen : goal.returns-in_ok-system-clause-chosen
returns-in_ok-system-clause-chosen g c =
    let within : c.args.pattern < length c.self.inside.patterns.items = subst (λ (m : Merging). c.args.pattern < length m.patterns) (sym c.self.view_is) c.requires.pattern in
    let at : slice_get c.self.inside.patterns.items c.args.pattern ≡ Some c.index-else-first-pattern.result.now =
    slice_get_read c.self.inside.patterns.items (length c.self.inside.patterns.items) c.args.pattern c.index-else-first-pattern.result.now refl within c.index-else-first-pattern.ensures in
    let is : IsSystem (columns_by c.self.inside.loads.now) (equations_of (rows_by c.self.inside.loads.now) c.index-else-first-pattern.result.now.cells) c.in_ok-system.system =
    subst (λ (cells : List (InstanceId × Bool)). IsSystem (columns_by c.self.inside.loads.now) (equations_of (rows_by c.self.inside.loads.now) cells) c.in_ok-system.system) c.as_slice.ensures c.in_ok-system.ensures in
    subst (λ (m : Merging). IfOk c.solve-else-first-pattern.result (λ words. (merged : Merged) → slice_get m.patterns c.args.pattern ≡ Some merged →
    IsChosen (columns_in m) (equations_of (rows_in m) merged.cells) c.args.fill.now.like.now (bits_of (columns_in m) words.items))) c.self.view_is
    (chosen_all (columns_by c.self.inside.loads.now) (rows_by c.self.inside.loads.now) c.self.inside.patterns.items c.args.pattern c.index-else-first-pattern.result.now c.in_ok-system.system c.args.fill.now.like.now c.solve-else-first-pattern.result is at
    c.solve-else-first-pattern.ensures.chosen)

pub returns-in_ok-system-clause-loads : goal.returns-in_ok-system-clause-loads
returns-in_ok-system-clause-loads g c =
    let within : c.args.pattern < length c.self.inside.patterns.items = subst (λ (m : Merging). c.args.pattern < length m.patterns) (sym c.self.view_is) c.requires.pattern in
    let at : slice_get c.self.inside.patterns.items c.args.pattern ≡ Some c.index-else-first-pattern.result.now =
    slice_get_read c.self.inside.patterns.items (length c.self.inside.patterns.items) c.args.pattern c.index-else-first-pattern.result.now refl within c.index-else-first-pattern.ensures in
    let is : IsSystem (columns_by c.self.inside.loads.now) (equations_of (rows_by c.self.inside.loads.now) c.index-else-first-pattern.result.now.cells) c.in_ok-system.system =
    subst (λ (cells : List (InstanceId × Bool)). IsSystem (columns_by c.self.inside.loads.now) (equations_of (rows_by c.self.inside.loads.now) cells) c.in_ok-system.system) c.as_slice.ensures c.in_ok-system.ensures in
    subst (λ (m : Merging). IfOk c.solve-else-first-pattern.result (λ words. (merged : Merged) → slice_get m.patterns c.args.pattern ≡ Some merged → Loads (columns_in m) (rows_in m) (bit_at (bits_of (columns_in m) words.items)) merged.cells)) c.self.view_is
    (loads_all (columns_by c.self.inside.loads.now) (rows_by c.self.inside.loads.now) c.self.inside.patterns.items c.args.pattern c.index-else-first-pattern.result.now c.in_ok-system.system c.solve-else-first-pattern.result is at c.solve-else-first-pattern.ensures.solves)
