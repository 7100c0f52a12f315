-- Cells that read nothing can be anything, whatever they take.
use Rattle.std.proofs.Common.{ℕ, Bool, true, false, ◌≡◌, ◌<◌, List, [], length, get_or, inl, inr, refl, sym, ap, subst, ◌∙◌, true≢false, Option, None, Some, is_none}
use Rattle.std.specs.Prelude.{◌==◌, ◌&&◌, ◌||◌, nat_lt, if◌then◌else◌}
use Rattle.std.proofs.lemmas.Bool.{and_parts}
use Rattle.dft_base.specs.declared.tri.Tri.{Tri}
use Rattle.dft_base.specs.declared.tri.Tri.TheVariants.{Unknown}
use Rattle.dft_lanes.specs.declared.wide.Wide.{Wide}
use Rattle.dft_cells.specs.FlipFlops.{Scan, Forces, tri_forced_by, tri_scanned, tri_forced_where}
use Rattle.dft_netlist.specs.Drivers.{Source, Net, Tied, Loose}
use Rattle.dft_behavior.specs.Logic.{Cell}
use Rattle.dft_behavior.specs.Runs.{takes}
use Rattle.dft_behavior.specs.Settled.{value_from}
use Rattle.dft_registers.specs.declared.layout.Place.{Place}
use Rattle.dft_registers.specs.Layout.{Layout, place_at}
use Rattle.dft_evaluator.specs.Wides.{values_in}
use Rattle.dft_logic.specs.declared.circuit.FlipFlop.{FlipFlop}
use Rattle.dft_logic.specs.Circuit.{Circuit, cell_of, flag_at, next_at, taken_at}
use Rattle.dft_logic.specs.Values.{value_at}
use Rattle.dft_logic.proofs.Writings.{cell_read}
use Rattle.dft_fault_lanes.specs.declared.clamps.Clamp.{Clamp}
use Rattle.dft_fault_lanes.specs.Lanes.{AreActedOn, AreTaken, flop_at, is_changed}
use Rattle.dft_fault_lanes.specs.Moves.{is_carried}
use Rattle.dft_takings.specs.Takings.{is_unforced}
use Rattle.dft_fault_lanes.specs.Idle.{is_loose, is_unscanned, is_idle, is_left, AreIdleUnknown}
use Rattle.dft_fault_lanes.specs.Pulses.{IsPhase, IsFall}

-- ---- what an idle cell takes

no_force : (forces : Forces ℕ) (ports : ℕ → Tri) (t : Tri) → is_unforced forces ≡ true → tri_forced_by forces ports t ≡ t
no_force forces ports t is = go forces.clear forces.preset is where
  go : (clear preset : Option ℕ) → (is_none clear && is_none preset) ≡ true → tri_forced_where false clear ports (tri_forced_where true preset ports t) ≡ t
  go None None is = refl
  go None (Some port) is = absurd (true≢false (sym is))
  go (Some port) preset is = absurd (true≢false (sym is))

no_scan : (scan : Option (Scan Source)) (at : Source → Tri) (data_in : Tri) → is_unscanned scan ≡ true → tri_scanned scan at data_in ≡ data_in
no_scan None at data_in is = refl
no_scan (Some scan) at data_in is = absurd (true≢false (sym is))

nothing_read : (falling : Bool) (input : Source) (values : ℕ → Tri) → (if falling then false else is_loose input) ≡ true → value_from values input ≡ Unknown
nothing_read true input values is = absurd (true≢false (sym is))
nothing_read false (Net net) values is = absurd (true≢false (sym is))
nothing_read false (Tied bit) values is = absurd (true≢false (sym is))
nothing_read false (Loose i pin) values is = refl

pub idle_next : (cell : Cell) (ports values : ℕ → Tri) → is_idle cell ≡ true → next_at cell ports values ≡ Unknown
idle_next cell ports values is =
    let parts = and_parts (if cell.falling then false else is_loose cell.takes.input) (is_unscanned cell.takes.scan && is_unforced cell.forces) is in
    let pins = and_parts (is_unscanned cell.takes.scan) (is_unforced cell.forces) parts.1 in
    no_force cell.forces ports (taken_at cell values) pins.1 ∙ no_scan cell.takes.scan (value_from values) (value_from values cell.takes.input) pins.0 ∙ nothing_read cell.falling cell.takes.input values parts.0

idle_forced : (cell : Cell) (ports : ℕ → Tri) (t : Tri) → is_idle cell ≡ true → tri_forced_by cell.forces ports t ≡ t
idle_forced cell ports t is =
    let parts = and_parts (if cell.falling then false else is_loose cell.takes.input) (is_unscanned cell.takes.scan && is_unforced cell.forces) is in
    no_force cell.forces ports t (and_parts (is_unscanned cell.takes.scan) (is_unforced cell.forces) parts.1).1

-- ---- idle cells stay as they are

both_unknown : (b : Bool) (s t : Tri) → s ≡ Unknown → t ≡ Unknown → (if b then s else t) ≡ Unknown
both_unknown true s t one other = one
both_unknown false s t one other = other

idle_taken : (flops : List FlipFlop) (rising : Bool) (pulsed : List Bool) (ports : List Tri) (wides old new : List Wide) → AreTaken flops rising pulsed ports wides old new → AreIdleUnknown flops old → AreIdleUnknown flops new
idle_taken flops rising pulsed ports wides old new taken was lane c within idle =
    taken lane c within
    ∙ both_unknown (is_changed (flop_at flops c) rising pulsed) (next_at (flop_at flops c) (value_at ports) (values_in wides lane)) (values_in old lane c) (idle_next (flop_at flops c) (value_at ports) (values_in wides lane) idle) (was lane c within idle)

pub idle_acted : (flops : List FlipFlop) (ports : List Tri) (old new : List Wide) → AreActedOn flops ports old new → AreIdleUnknown flops old → AreIdleUnknown flops new
idle_acted flops ports old new acted was lane c within idle = acted lane c within ∙ idle_forced (flop_at flops c) (value_at ports) (values_in old lane c) idle ∙ was lane c within idle

pub idle_pulsed : (x : Circuit) (needs known : ℕ → Bool) (ports : List Tri) (pulsed : List Bool) (clamps : List (Option Clamp)) (wides old middle new : List Wide) (live risen fallen : Wide) → IsPhase x known true ports pulsed wides old middle live risen →
    IsFall x needs ports pulsed clamps middle new risen fallen → AreIdleUnknown x.flops old → AreIdleUnknown x.flops new
idle_pulsed x needs known ports pulsed clamps wides old middle new live risen fallen rise fall was =
    let after : AreIdleUnknown x.flops middle = idle_taken x.flops true pulsed ports wides old middle rise.taken was in
    elim fall [
      | inl none ↦ subst (AreIdleUnknown x.flops) (sym none.1.0) after
      | inr some ↦ idle_taken x.flops false pulsed ports some.0 middle new some.1.1.taken after
    ]

-- ---- cells that are left out

-- what is told by the cell and its place
pub left_tells : (l : Layout) (moves : List Bool) (flops : List FlipFlop) (c : ℕ) (flop : FlipFlop) (place : Place) (left : Bool) → c < length flops → flop ≡ get_or flops c flop → place ≡ place_at l.places c →
    left ≡ ((flag_at moves place.register && nat_lt 0 place.index) || (is_idle (cell_of flop) && (place.register == 0))) → left ≡ is_left l moves flops c
left_tells l moves flops c flop place left near read at is =
    let cell : cell_of flop ≡ flop_at flops c = ap cell_of read ∙ cell_read flops c flop near in
    is ∙ ap (λ (p : Place). (flag_at moves p.register && nat_lt 0 p.index) || (is_idle (cell_of flop) && (p.register == 0))) at ∙ ap (λ (k : Cell). is_carried l moves c || (is_idle k && ((place_at l.places c).register == 0))) cell

-- one that is not carried and is left out is idle and lies in no register
pub left_idle : (b c d : Bool) → b ≡ false → (b || (c && d)) ≡ true → (c ≡ true) × (d ≡ true)
left_idle true c d down up = absurd (true≢false down)
left_idle false c d down up = and_parts c d up

down_idle : (falling loose rest : Bool) → takes false falling ≡ true → ((if falling then false else loose) && rest) ≡ false
down_idle true loose rest is = refl
down_idle false loose rest is = absurd (true≢false (sym is))

-- one that takes a value at a fall is not idle
pub left_falls : (l : Layout) (flops : List FlipFlop) (pulsed : List Bool) (c : ℕ) → is_carried l [] c ≡ false → is_changed (flop_at flops c) false pulsed ≡ true → is_left l [] flops c ≡ false
left_falls l flops pulsed c stays up =
    let cell : Cell = flop_at flops c in
    let down : is_idle cell ≡ false = down_idle cell.falling (is_loose cell.takes.input) (is_unscanned cell.takes.scan && is_unforced cell.forces) (and_parts (flag_at pulsed cell.domain) (takes false cell.falling) up).1 in
    ap (λ (b : Bool). b || (is_idle cell && ((place_at l.places c).register == 0))) stays ∙ ap (λ (b : Bool). b && ((place_at l.places c).register == 0)) down
