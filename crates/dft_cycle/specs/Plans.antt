-- Plans: pulses that are found in one pass, by the nets to settle and by what flip-flops take.
use Rattle.std.specs.Prelude.{ℕ, Bool, true, ◌≡◌, ◌<◌, ◌≤◌, List, [], All, Option, Some, map, length, take, slice_get}
use Rattle.std.specs.Vec.{vec_capacity}
use Rattle.dft_base.specs.declared.tri.Tri.{Tri}
use Rattle.dft_base.specs.declared.tri.Tri.TheVariants.{Unknown}
use Rattle.dft_netlist.specs.declared.ids.NetId.{NetId}
use Rattle.dft_netlist.specs.Orders.{Has, numbers_of}
use Rattle.dft_abstract.specs.Cycle.{Pulse, level_before, IsLeast, after_pulse}
use Rattle.dft_takings.specs.Needs.{IsStrobeClosed}
use Rattle.dft_takings.specs.Shows.{Shown, IsShownOn}
use Rattle.dft_takings.specs.Takes.{AreOrigins}
use Rattle.dft_takings.specs.Entries.{Entry}
use Rattle.dft_logic.specs.Values.{value_at}
use Rattle.dft_logic.specs.Circuit.{Circuit, logic_at, cell_of, cell_at, flag_at, force_nets, AreOrdered}
use Rattle.dft_takings.specs.EntryTables.{scan_needs, entry_for, entry_needs}
use Rattle.dft_registers.specs.Layout.{Layout}
use Rattle.dft_registers.specs.Cells.{Contents, course, CanMove}
use Rattle.dft_takings.specs.Takings.{AreTakings, ArePut, taking_at, is_loose}
use Rattle.dft_takings.specs.ShownTables.{edges_of}
use Rattle.dft_cycle.specs.declared.plans.Pins.{Pins}
use Rattle.dft_cycle.specs.declared.plans.Plan.{Plan}
use Rattle.dft_cycle.specs.declared.plans.Sketch.{Sketch}
use Rattle.dft_cycle.specs.declared.plans.Stage.{Stage}
use Rattle.dft_cycle.specs.declared.plans.Stage.TheVariants.{Made}
use Rattle.dft_cycle.specs.declared.planning.Plans.{Plans}
use Rattle.dft_cycle.specs.Views.{Among}
use Rattle.dft_cycle.specs.Steps.{IsStep, step_nets}

-- the values of nets, in their order
abbrev pub row_of : (values : ℕ → Tri) → List NetId → List Tri
row_of values nets = map (λ net. values net.0) nets

-- the flags of nets, in their order
abbrev pub flags_of : (flags : ℕ → Bool) → List NetId → List Bool
flags_of flags nets = map (λ net. flags net.0) nets

-- the nets at the front of a list are in order, and with these marked nets all are there that they are settled from
pub record IsNeedList (x : Circuit) (marked : List Bool) (nets : List NetId) : Type 0 where
  pub closed : IsStrobeClosed (logic_at x) (flag_at marked)
  pub ordered : AreOrdered x.ops [] (numbers_of nets)
  pub listed : (k : ℕ) → flag_at marked k ≡ true → Has (numbers_of nets) k

-- the ports of all resets and sets, and the nets of all scan enables, so far as there are such nets
pub record IsPins (x : Circuit) (pins : Pins) : Type 0 where
  pub ports : (c k : ℕ) → c < length x.flops → k < length x.ops → Has (force_nets (cell_at (map cell_of x.flops) c).forces) k → Has (numbers_of pins.ports.items) k
  pub enables : (c k : ℕ) → c < length x.flops → k < length x.ops → Has (scan_needs true (cell_at (map cell_of x.flops) c).takes.scan) k → Has (numbers_of pins.enables.items) k
  pub count : pins.count ≤ length pins.list.items
  pub ordered : AreOrdered x.ops [] (numbers_of (take pins.count pins.list.items))

-- these are the edge and the flags of the clocks, where all clocks that pulse are among them, and the values of the pins' ports and of their scan enables
pub record IsKey (clocks : List NetId) (pins : Pins) (p : Pulse) (values : ℕ → Tri) (rising : Bool) (flags : List Bool) (forces scans : List Tri) : Type 0 where
  pub edge : rising ≡ p.rising
  pub among : (e : ℕ) → p.pulsed e ≡ true → Among clocks (length clocks) e
  pub pulsed : flags ≡ flags_of p.pulsed clocks
  pub ports : forces ≡ row_of p.ports pins.ports.items
  pub enables : scans ≡ row_of values pins.enables.items

-- A plan that is made was right for some pulse that has its key: each flip-flop has an entry there, what it needs is listed, and what it takes.
pub record IsMade (x : Circuit) (clocks : List NetId) (l : Layout) (pins : Pins) (plan : Plan) : Type 0 where
  pub pulse : Pulse
  pub values : List Tri
  pub origin : ℕ → Option ℕ
  pub shown : ℕ → Shown
  pub marked : List Bool
  pub table : ℕ → Entry
  pub size : length values ≡ length x.ops
  pub past : (k : ℕ) → length x.ops ≤ k → pulse.ports k ≡ Unknown
  pub key : IsKey clocks pins pulse (value_at values) plan.rising plan.pulsed.items plan.ports.items plan.enables.items
  pub origins : AreOrigins (logic_at x) (level_before pulse) origin
  pub shows : IsShownOn (logic_at x) (edges_of pulse.rising pulse.pulsed) (λ net. true) shown
  pub entries : (c : ℕ) → c < length x.flops → entry_for (cell_at (map cell_of x.flops) c) pulse origin shown (value_at values) ≡ Some (table c)
  pub needed : (c : ℕ) → c < length x.flops → (k : ℕ) → k < length x.ops → Has (entry_needs (cell_at (map cell_of x.flops) c) (table c)) k → flag_at marked k ≡ true
  pub steps : All (IsStep x) plan.steps.items
  pub list : IsNeedList x marked (step_nets plan.steps.items)
  pub can : CanMove l plan.moves.items
  pub takings : AreTakings (cell_at (map cell_of x.flops)) table (length x.flops) (course l plan.moves.items) plan.takings.items

-- where flip-flops lie so
pub record IsPlan (x : Circuit) (clocks : List NetId) (l : Layout) (pins : Pins) (plan : Plan) : Type 0 where
  pub pulsed : length plan.pulsed.items ≡ length clocks
  pub ports : length plan.ports.items ≡ length pins.ports.items
  pub enables : length plan.enables.items ≡ length pins.enables.items
  pub steps : length x.ops ≤ vec_capacity plan.steps
  pub room : length x.flops ≤ vec_capacity plan.takings
  pub made : plan.stage ≡ Made → IsMade x clocks l pins plan

-- ---- what is written in a plan

-- the plan has this key, and the rest of it is as before
pub record IsNoted (clocks : List NetId) (pins : Pins) (p : Pulse) (values : ℕ → Tri) (how : Stage) (old new : Plan) : Type 0 where
  pub stage : new.stage ≡ how
  pub rising : new.rising ≡ p.rising
  pub pulsed : new.pulsed.items ≡ flags_of p.pulsed clocks
  pub ports : new.ports.items ≡ row_of p.ports pins.ports.items
  pub enables : new.enables.items ≡ row_of values pins.enables.items
  pub steps : new.steps ≡ old.steps
  pub moves : new.moves ≡ old.moves
  pub takings : new.takings ≡ old.takings

-- the plan lists what flip-flops with these entries need, by marks, the registers that move, and what flip-flops take; its key is as before
pub record IsFilled (x : Circuit) (l : Layout) (table : ℕ → Entry) (old new : Plan) : Type 0 where
  pub marked : List Bool
  pub stage : new.stage ≡ old.stage
  pub rising : new.rising ≡ old.rising
  pub pulsed : new.pulsed ≡ old.pulsed
  pub ports : new.ports ≡ old.ports
  pub enables : new.enables ≡ old.enables
  pub listed : vec_capacity new.steps ≡ vec_capacity old.steps
  pub steps : All (IsStep x) new.steps.items
  pub list : IsNeedList x marked (step_nets new.steps.items)
  pub needed : (c : ℕ) → c < length x.flops → (k : ℕ) → k < length x.ops → Has (entry_needs (cell_at (map cell_of x.flops) c) (table c)) k → flag_at marked k ≡ true
  pub can : CanMove l new.moves.items
  pub takings : AreTakings (cell_at (map cell_of x.flops)) table (length x.flops) (course l new.moves.items) new.takings.items
  pub room : vec_capacity new.takings ≡ vec_capacity old.takings

-- ---- loose flip-flops

-- flip-flops that are loose have never another value than Unknown, so no plan lists them
abbrev pub LooseAreUnknown : Circuit → (values : ℕ → Tri) → Type 0
LooseAreUnknown x values = (c : ℕ) → is_loose (cell_at (map cell_of x.flops) c) ≡ true → values c ≡ Unknown

-- ---- all plans

-- the room has a place for each net and each instance
pub record IsSketch (x : Circuit) (room : Sketch) : Type 0 where
  pub origins : length room.origins.items ≡ length x.ops
  pub shown : length room.shown.items ≡ length x.ops
  pub entries : length room.entries.items ≡ length x.flops

-- the plans of a circuit with these clocks, and what they are made from
pub record ArePlans (x : Circuit) (clocks : List NetId) (l : Layout) (p : Plans) : Type 0 where
  pub pins : IsPins x p.pins
  pub sketch : IsSketch x p.sketch
  pub list : length p.list.items ≡ length x.ops
  pub plans : All (IsPlan x clocks l p.pins) p.plans.items
  pub some : 0 < length p.plans.items

-- a phase of a pulse was found by one pass: these are the values of flip-flops after it, at a least map that is there
pub record IsPassed (x : Circuit) (p : Pulse) (new : List Tri) : Type 0 where
  pub poss : ℕ → Tri
  pub view : ℕ → ℕ → Tri
  pub least : IsLeast (logic_at x) p poss view
  pub each : (c : ℕ) → c < length x.flops → value_at new c ≡ after_pulse (logic_at x) p view c

-- What was found for a plan's list: where it is put, as the plan's registers move, the phase is passed.
pub record IsFound (x : Circuit) (p : Pulse) (old : Contents Tri) (plan : Plan) (row : List Tri) : Type 0 where
  pub can : CanMove old.layout plan.moves.items
  pub few : length plan.takings.items ≤ length x.flops
  pub live : (j : ℕ) → j < length plan.takings.items → (taking_at plan.takings.items j).place < length x.flops
  pub passed : (new : List Tri) → ArePut plan.takings.items (length plan.takings.items) (value_at row) (course old.layout plan.moves.items) old.values new → IsPassed x p new

-- for the plan at a place
abbrev pub IsFoundAt : Circuit → Pulse → (old : Contents Tri) → List Plan → (place : ℕ) → (row : List Tri) → Type 0
IsFoundAt x p old plans place row = (plan : Plan) → slice_get plans place ≡ Some plan → IsFound x p old plan row
