-- A pattern is one of the patterns, and can be loaded.
use Rattle.std.proofs.Common.{◌≡◌, ◌<◌, Bool, List, None, Some, IfOk, length, refl, slice_get, subst, sym}
use Rattle.std.proofs.lemmas.Option.{slice_get_read}
use Rattle.dft_base.specs.Solutions.{IsChosen, IsSolvable, bit_at}
use Rattle.dft_netlist.specs.declared.ids.InstanceId.{InstanceId}
use Rattle.dft_lanes.specs.Rows.{bits_of}
use Rattle.dft_cubes.specs.declared.cube.Merged.{Merged}
use Rattle.dft_merge.specs.Placement.{Loads, equations_of, first_unscanned}
use Rattle.dft_merge.specs.LoadPlan.{columns_by, rows_by}
use Rattle.dft_merge.specs.Slots.{IsLoadable}
use Rattle.dft_merge.specs.Merging.{Merging, columns_in, rows_in}
use Rattle.dft_merge.specs.Systems.{IsSystem}
use Rattle.dft_merge.proofs.MergerLemmas.{chosen_all, loads_all}
use Rattle.dft_merge.proofs.closed.Closed.channel_bits.Given as given
use Rattle.dft_merge.proofs.closed.Closed.channel_bits.Goals as goal

closed_is : (g : given.Over) (c : goal.After-as_slice g) → slice_get c.self.inside.patterns.items c.args.pattern ≡ Some c.index.result.now
closed_is g c =
    let within : c.args.pattern < length c.self.inside.patterns.items = subst (λ (m : Merging). c.args.pattern < length m.patterns) (sym c.self.view_is) c.requires.pattern in
    slice_get_read c.self.inside.patterns.items (length c.self.inside.patterns.items) c.args.pattern c.index.result.now refl within c.index.ensures

loadable : (g : given.Over) (c : goal.After-as_slice g) → IsLoadable (columns_by c.self.inside.loads.now) (rows_by c.self.inside.loads.now) c.index.result.now
loadable g c = c.self.invariant c.args.pattern c.index.result.now (closed_is g c)

pub system_of-requires-clause-scanned : goal.system_of-requires-clause-scanned
system_of-requires-clause-scanned g c =
    subst (λ (cells : List (InstanceId × Bool)). first_unscanned (rows_by c.self.inside.loads.now) cells ≡ None) (sym c.as_slice.ensures) (loadable g c).scanned

pub system_of-requires-clause-solvable : goal.system_of-requires-clause-solvable
system_of-requires-clause-solvable g c =
    subst (λ (cells : List (InstanceId × Bool)). IsSolvable (columns_by c.self.inside.loads.now) (equations_of (rows_by c.self.inside.loads.now) cells)) (sym c.as_slice.ensures) (loadable g c).solvable

pub returns-clause-chosen : goal.returns-clause-chosen
returns-clause-chosen g c =
    let within : c.args.pattern < length c.self.inside.patterns.items = subst (λ (m : Merging). c.args.pattern < length m.patterns) (sym c.self.view_is) c.requires.pattern in
    let at : slice_get c.self.inside.patterns.items c.args.pattern ≡ Some c.index.result.now =
    slice_get_read c.self.inside.patterns.items (length c.self.inside.patterns.items) c.args.pattern c.index.result.now refl within c.index.ensures in
    let is : IsSystem (columns_by c.self.inside.loads.now) (equations_of (rows_by c.self.inside.loads.now) c.index.result.now.cells) c.in_ok-system.system =
    subst (λ (cells : List (InstanceId × Bool)). IsSystem (columns_by c.self.inside.loads.now) (equations_of (rows_by c.self.inside.loads.now) cells) c.in_ok-system.system) c.as_slice.ensures c.in_ok-system.ensures in
    subst (λ (m : Merging). IfOk c.solve.result (λ words. (merged : Merged) → slice_get m.patterns c.args.pattern ≡ Some merged →
    IsChosen (columns_in m) (equations_of (rows_in m) merged.cells) c.args.fill.now.like.now (bits_of (columns_in m) words.items))) c.self.view_is
    (chosen_all (columns_by c.self.inside.loads.now) (rows_by c.self.inside.loads.now) c.self.inside.patterns.items c.args.pattern c.index.result.now c.in_ok-system.system c.args.fill.now.like.now c.solve.result is at
    c.solve.ensures.chosen)

pub returns-clause-loads : goal.returns-clause-loads
returns-clause-loads g c =
    let within : c.args.pattern < length c.self.inside.patterns.items = subst (λ (m : Merging). c.args.pattern < length m.patterns) (sym c.self.view_is) c.requires.pattern in
    let at : slice_get c.self.inside.patterns.items c.args.pattern ≡ Some c.index.result.now =
    slice_get_read c.self.inside.patterns.items (length c.self.inside.patterns.items) c.args.pattern c.index.result.now refl within c.index.ensures in
    let is : IsSystem (columns_by c.self.inside.loads.now) (equations_of (rows_by c.self.inside.loads.now) c.index.result.now.cells) c.in_ok-system.system =
    subst (λ (cells : List (InstanceId × Bool)). IsSystem (columns_by c.self.inside.loads.now) (equations_of (rows_by c.self.inside.loads.now) cells) c.in_ok-system.system) c.as_slice.ensures c.in_ok-system.ensures in
    subst (λ (m : Merging). IfOk c.solve.result (λ words. (merged : Merged) → slice_get m.patterns c.args.pattern ≡ Some merged → Loads (columns_in m) (rows_in m) (bit_at (bits_of (columns_in m) words.items)) merged.cells)) c.self.view_is
    (loads_all (columns_by c.self.inside.loads.now) (rows_by c.self.inside.loads.now) c.self.inside.patterns.items c.args.pattern c.index.result.now c.in_ok-system.system c.solve.result is at c.solve.ensures.solves)
