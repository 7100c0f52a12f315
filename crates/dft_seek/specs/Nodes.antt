-- What a node of a search is, by the tables of values that the search keeps.
use Rattle.std.specs.Prelude.{ℕ, Bool, true, false, not, ◌+◌, ◌-◌, ◌≡◌, ◌<◌, ◌&&◌, ◌||◌, nat_le, List, Option, None, Some, drop, length, map, if◌then◌else◌}
use Rattle.std.specs.List.{list_all, list_any}
use Rattle.dft_base.specs.declared.tri.Tri.{Tri}
use Rattle.dft_netlist.specs.Orders.{Has, numbers_of}
use Rattle.dft_behavior.specs.Settled.{TriSources}
use Rattle.dft_expect.specs.Loaded.{bit_of_cell, or_unknown}
use Rattle.dft_logic.specs.Circuit.{flag_at}
use Rattle.dft_logic.specs.Values.{value_at}
use Rattle.dft_sweep.specs.declared.field.Stuck.{Stuck}
use Rattle.dft_sweep.specs.Places.{AreBusy}
use Rattle.dft_sweep.specs.Fields.{IsGivenIf, is_needed}
use Rattle.dft_faults.specs.declared.fault.Fault.{Fault}
use Rattle.dft_seek.specs.Assigned.{bit_of_net, is_at}
use Rattle.dft_seek.specs.Searches.{agree, differ}
use Rattle.dft_seek.specs.Trees as trees
use Rattle.dft_seek.specs.Trees.{is_bit}
use Rattle.dft_seek.specs.Pins.{next_by, pins_at}
use Rattle.dft_seek.specs.Rigs.{IsSettledSome, means_of, sources_by}
use Rattle.dft_seek.specs.declared.cones.Cone.{Cone}
use Rattle.dft_seek.specs.declared.looking.Table.{Table}
use Rattle.dft_seek.specs.declared.looking.Values.{Values}
use Rattle.dft_seek.specs.declared.looking.Verdict.{Verdict}
use Rattle.dft_seek.specs.declared.looking.Verdict.TheVariants.{Found, Dead, Open}
use Rattle.dft_seek.specs.declared.rig.Rig.{Rig}

abbrev pub verdict : Verdict → trees.Verdict
verdict Found = trees.Found
verdict Dead = trees.Dead
verdict Open = trees.Open

-- ---- points

-- what a cell captures that takes its next value at the fall, or else at the rise
abbrev pub captured_at : Rig → (first second : List Tri) → (cell : ℕ) → Tri
captured_at r first second c = if flag_at r.falls.items c then next_by (pins_at r.pins.items c) (value_at second) else next_by (pins_at r.pins.items c) (value_at first)

-- by the values of both designs before the clock rises and before it falls
abbrev pub found_at : Rig → Cone → (good good_after bad bad_after : List Tri) → Bool
found_at r cone good good_after bad bad_after =
    list_any (λ net. differ (value_at good net.0) (value_at bad net.0)) cone.outputs.items
    || list_any (λ cell. differ (captured_at r good good_after cell.0) (captured_at r bad bad_after cell.0)) cone.responses.items

abbrev pub same_at : Rig → Cone → (good good_after bad bad_after : List Tri) → Bool
same_at r cone good good_after bad bad_after =
    list_all (λ net. agree (value_at good net.0) (value_at bad net.0)) cone.outputs.items
    && list_all (λ cell. agree (captured_at r good good_after cell.0) (captured_at r bad bad_after cell.0)) cone.responses.items

abbrev pub stays_at : Rig → Fault → (good good_after : List Tri) → Bool
stays_at r f good good_after = is_bit f.value (value_at good f.net.0) && (not r.any_falls || is_bit f.value (value_at good_after f.net.0))

-- ---- values

-- the value of a cell after the clock has risen
abbrev pub risen_at : Rig → (cells values : List Tri) → (cell : ℕ) → Tri
risen_at r cells values c = if flag_at r.rises.items c then next_by (pins_at r.pins.items c) (value_at values) else value_at cells c

-- what nets are settled from in a rig
abbrev pub sources_in : Rig → (ports cells : ℕ → Tri) → TriSources
sources_in r ports cells = sources_by r.resets.items r.holds.items ports cells

-- the needed nets have their values, for these values of ports and cells
abbrev pub AreSettledFor : Rig → (needed : List Bool) → Option Stuck → (ports cells : ℕ → Tri) → (values : List Tri) → Type 0
AreSettledFor r needed stuck ports cells values = (k : ℕ) → IsGivenIf needed (means_of r.circuit stuck) (sources_in r ports cells) values k

-- each needed net that is not marked has the value that it has from some sources
pub record IsNear (r : Rig) (needed : List Bool) (stuck : Option Stuck) (t : Table) : Type 0 where
  pub values : length t.values.items ≡ length r.design.now.nets
  pub marked : length t.marks.marked.items ≡ length r.design.now.nets
  pub sources : TriSources
  pub given : (k : ℕ) → flag_at t.marks.marked.items k ≡ false → IsGivenIf needed (means_of r.circuit stuck) sources t.values.items k
  pub busy : AreBusy r.places.items t.marks

-- the needed nets have the values that they have from some sources, and none is marked
pub record IsSettled (r : Rig) (needed : List Bool) (stuck : Option Stuck) (t : Table) : Type 0 where
  pub values : length t.values.items ≡ length r.design.now.nets
  pub marked : length t.marks.marked.items ≡ length r.design.now.nets
  pub clear : (k : ℕ) → flag_at t.marks.marked.items k ≡ false
  pub settled : IsSettledSome needed (means_of r.circuit stuck) t.values.items

-- the net of a fault is stuck
abbrev pub stuck_of : Fault → Option Stuck
stuck_of f = Some (record { net = f.net; value = f.value })

-- between nodes there is a place for each cell and each net, and all tables are settled
pub record AreReady (r : Rig) (f : Fault) (needed : List Bool) (v : Values) : Type 0 where
  pub cells : length v.cells.items ≡ length r.design.now.instances
  pub ports : length v.ports.items ≡ length r.design.now.nets
  pub risen : length v.risen.items ≡ length r.design.now.instances
  pub good : IsSettled r needed None v.good
  pub bad : IsSettled r needed (stuck_of f) v.bad
  pub good_after : IsSettled r needed None v.good_after
  pub bad_after : r.any_falls ≡ true → IsSettled r needed (stuck_of f) v.bad_after

-- each needed net that is not marked has the value that it has from these values of ports and cells
pub record IsOpen (r : Rig) (needed : List Bool) (stuck : Option Stuck) (ports cells : List Tri) (t : Table) : Type 0 where
  pub values : length t.values.items ≡ length r.design.now.nets
  pub marked : length t.marks.marked.items ≡ length r.design.now.nets
  pub given : (k : ℕ) → flag_at t.marks.marked.items k ≡ false → IsGivenIf needed (means_of r.circuit stuck) (sources_in r (value_at ports) (value_at cells)) t.values.items k
  pub busy : AreBusy r.places.items t.marks

-- the same before the clock rises, where ports and cells have their values; before it falls the tables are settled
pub record AreOpen (r : Rig) (f : Fault) (needed : List Bool) (v : Values) : Type 0 where
  pub cells : length v.cells.items ≡ length r.design.now.instances
  pub ports : length v.ports.items ≡ length r.design.now.nets
  pub risen : length v.risen.items ≡ length r.design.now.instances
  pub good : IsOpen r needed None v.ports.items v.cells.items v.good
  pub bad : IsOpen r needed (stuck_of f) v.ports.items v.cells.items v.bad
  pub good_after : IsSettled r needed None v.good_after
  pub bad_after : r.any_falls ≡ true → IsSettled r needed (stuck_of f) v.bad_after

-- there is a mark for each net
pub record AreMarkable (r : Rig) (v : Values) : Type 0 where
  pub good : length v.good.marks.marked.items ≡ length r.design.now.nets
  pub bad : length v.bad.marks.marked.items ≡ length r.design.now.nets

-- those of these nets that are needed are marked
pub record IsMarked (r : Rig) (needed : List Bool) (nets : List ℕ) (old new : Table) : Type 0 where
  pub values : new.values ≡ old.values
  pub size : length new.marks.marked.items ≡ length old.marks.marked.items
  pub lowered : (k : ℕ) → flag_at new.marks.marked.items k ≡ false → (flag_at old.marks.marked.items k ≡ false) × (is_needed needed k ≡ true → Has nets k → ⊥)
  pub busy : AreBusy r.places.items old.marks → AreBusy r.places.items new.marks

pub record AreMarked (r : Rig) (needed : List Bool) (nets : List ℕ) (old new : Values) : Type 0 where
  pub cells : new.cells ≡ old.cells
  pub ports : new.ports ≡ old.ports
  pub risen : new.risen ≡ old.risen
  pub good : IsMarked r needed nets old.good new.good
  pub bad : IsMarked r needed nets old.bad new.bad
  pub good_after : new.good_after ≡ old.good_after
  pub bad_after : new.bad_after ≡ old.bad_after

-- cells and ports have the bits of a node, and no other value is known
pub record AreAt (cone : Cone) (bits : List Bool) (v : Values) : Type 0 where
  pub cells : (c : ℕ) → c < length v.cells.items → value_at v.cells.items c ≡ or_unknown (bit_of_cell cone.cells.items bits c)
  pub ports : (net : ℕ) → net < length v.ports.items → value_at v.ports.items net ≡ or_unknown (bit_of_net cone.ports.items (drop (length cone.cells.items) bits) net)

-- the variable at a place is this cell, or this port
abbrev pub is_cell_at : Cone → (place cell : ℕ) → Bool
is_cell_at cone place c = is_at (map (λ cell. cell.0) cone.cells.items) place c

abbrev pub is_port_at : Cone → (place net : ℕ) → Bool
is_port_at cone place net = nat_le (length cone.cells.items) place && is_at (numbers_of cone.ports.items) (place - length cone.cells.items) net

-- the variable at a place has this value, and all others theirs
pub record IsGivenAt (cone : Cone) (place : ℕ) (value : Tri) (old new : Values) : Type 0 where
  pub count : length new.cells.items ≡ length old.cells.items
  pub size : length new.ports.items ≡ length old.ports.items
  pub cells : (c : ℕ) → c < length old.cells.items → value_at new.cells.items c ≡ (if is_cell_at cone place c then value else value_at old.cells.items c)
  pub ports : (net : ℕ) → net < length old.ports.items → value_at new.ports.items net ≡ (if is_port_at cone place net then value else value_at old.ports.items net)

-- the values of both captures of these values of ports and cells, at the needed nets
pub record AreEvaluated (r : Rig) (f : Fault) (needed : List Bool) (v : Values) : Type 0 where
  pub good : AreSettledFor r needed None (value_at v.ports.items) (value_at v.cells.items) v.good.values.items
  pub bad : AreSettledFor r needed (stuck_of f) (value_at v.ports.items) (value_at v.cells.items) v.bad.values.items
  pub good_after : r.any_falls ≡ true → AreSettledFor r needed None (value_at v.ports.items) (risen_at r v.cells.items v.good.values.items) v.good_after.values.items
  pub bad_after : r.any_falls ≡ true → AreSettledFor r needed (stuck_of f) (value_at v.ports.items) (risen_at r v.cells.items v.bad.values.items) v.bad_after.values.items

-- the values of ports and cells stay
pub record AreSame (old new : Values) : Type 0 where
  pub cells : new.cells ≡ old.cells
  pub ports : new.ports ≡ old.ports

-- the values before the clock rises, for those of ports and cells
pub record IsFirst (r : Rig) (f : Fault) (needed : List Bool) (old new : Values) : Type 0 where
  pub ready : AreReady r f needed new
  pub same : AreSame old new
  pub good : AreSettledFor r needed None (value_at new.ports.items) (value_at new.cells.items) new.good.values.items
  pub bad : AreSettledFor r needed (stuck_of f) (value_at new.ports.items) (value_at new.cells.items) new.bad.values.items

-- the values before the clock falls, for those before it rises, which stay
pub record IsSecond (r : Rig) (f : Fault) (needed : List Bool) (old new : Values) : Type 0 where
  pub ready : AreReady r f needed new
  pub same : AreSame old new
  pub good : new.good ≡ old.good
  pub bad : new.bad ≡ old.bad
  pub good_after : r.any_falls ≡ true → AreSettledFor r needed None (value_at new.ports.items) (risen_at r new.cells.items new.good.values.items) new.good_after.values.items
  pub bad_after : r.any_falls ≡ true → AreSettledFor r needed (stuck_of f) (value_at new.ports.items) (risen_at r new.cells.items new.bad.values.items) new.bad_after.values.items

-- whether every variable has a bit
abbrev pub is_whole_at : Cone → List Bool → Bool
is_whole_at cone bits = nat_le (length cone.cells.items + length cone.ports.items) (length bits)

-- what a node of these bits is, by its values
abbrev pub verdict_at : Rig → Fault → Cone → List Bool → Values → trees.Verdict
verdict_at r f cone bits v =
    trees.verdict_of (found_at r cone v.good.values.items v.good_after.values.items v.bad.values.items v.bad_after.values.items)
    (stays_at r f v.good.values.items v.good_after.values.items || (same_at r cone v.good.values.items v.good_after.values.items v.bad.values.items v.bad_after.values.items || is_whole_at cone bits))
