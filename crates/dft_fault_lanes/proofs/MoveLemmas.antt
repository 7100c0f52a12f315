-- Cells that are moved with their registers take what they would take of the nets.
use Rattle.std.proofs.Common.{ℕ, zero, suc, Bool, true, false, ◌≡◌, ◌<◌, ◌≤◌, ◌≢◌, ◌+◌, ◌-◌, ◌⊎◌, inl, inr, List, [], ◌∷◌, length, get_or, slice_set, get_or-set_same, get_or-set_other, refl, sym, ap, subst, arith, ◌∙◌, true≢false, Option, None, Some}
use Rattle.std.specs.Prelude.{map, nat_lt, slice_index_or, ◌==◌, ◌&&◌, if◌then◌else◌}
use Rattle.std.proofs.lemmas.List.{get_or_past}
use Rattle.std.proofs.lemmas.Bool.{cases_Bool, cases_eq, and_parts}
use Rattle.std.proofs.lemmas.Bool.Decides.{eqb_tells, leb_tells}
use Rattle.dft_base.proofs.BitLemmas.{neither}
use Rattle.dft_base.specs.declared.tri.Tri.{Tri}
use Rattle.dft_base.specs.declared.tri.Tri.TheVariants.{One, Unknown}
use Rattle.dft_base.proofs.SumLemmas.{and_false}
use Rattle.dft_cells.specs.FlipFlops.{tri_chosen, Scan, Forces, no_forces, tri_forced_by, tri_scanned}
use Rattle.dft_cells.proofs.TriLemmas.{chosen_one}
use Rattle.dft_lanes.specs.declared.wide.Wide.{Wide}
use Rattle.dft_netlist.specs.declared.ids.NetId.{NetId}
use Rattle.dft_netlist.specs.Drivers.{Source, Net, Tied, Loose, nets_of}
use Rattle.dft_behavior.specs.Logic.{Cell}
use Rattle.dft_netlist.specs.Orders.{Has}
use Rattle.dft_behavior.specs.Runs.{takes}
use Rattle.dft_behavior.specs.Settled.{value_from}
use Rattle.dft_registers.specs.Layout.{Layout, place_at, cells_at}
use Rattle.dft_registers.specs.declared.moves.Move.{Move}
use Rattle.dft_registers.specs.Cells.{Contents, Course, Follows, move_at, shifts_if, course_from, course_in, course, IsCarried, IsShifted}
use Rattle.dft_registers.proofs.MoveLemmas.{flagged}
use Rattle.dft_evaluator.specs.Wides.{value_in, values_in, wide_at, unknown_wide, IsWide, AreWides}
use Rattle.dft_evaluator.proofs.BitLemmas.{all_unknown}
use Rattle.dft_evaluator.proofs.WideLemmas.{wide_is}
use Rattle.dft_logic.specs.declared.circuit.FlipFlop.{FlipFlop}
use Rattle.dft_logic.specs.declared.circuit.Op.{Op}
use Rattle.dft_logic.specs.Circuit.{Circuit, logic_at, flag_at, cell_of, next_at, taken_at}
use Rattle.dft_takings.specs.Needs.{HasAll, chosen_reads, taken_reads, forced_reads, next_reads}
use Rattle.dft_takings.specs.Shows.{still_needs}
use Rattle.dft_takings.specs.ShownTables.{shown_at}
use Rattle.dft_logic.specs.Values.{value_at}
use Rattle.dft_takings.proofs.ReadLemmas.{Agree, source_agrees, set_agrees, next_agrees}
use Rattle.dft_logic.proofs.Writings.{cell_read, cell_past}
use Rattle.dft_takings.proofs.ListLemmas.{wider as all_wider}
use Rattle.dft_takings.proofs.RiseLemmas.{more_all}
use Rattle.dft_fault_laws.specs.Rounds.{every}
use Rattle.dft_fault_lanes.specs.declared.clamps.Clamp.{Clamp}
use Rattle.dft_fault_lanes.specs.declared.marking.Steer.{Steer}
use Rattle.dft_fault_lanes.specs.declared.plans.Plan.{Plan}
use Rattle.dft_fault_lanes.specs.Lanes.{AreSettledOn, AreTaken, KeepsSteady, flop_at, is_changed}
use Rattle.dft_fault_lanes.specs.Plans.{needs_of, Steers, SteersAll, HasReadsOf, enable_at}
use Rattle.dft_fault_lanes.specs.Pulses.{at_levels}
use Rattle.dft_fault_lanes.specs.Seen.{cell_shown, seen, knows}
use Rattle.dft_fault_lanes.specs.Moves.{NoneActs, is_carried, ShowsCell, TakesFrom, IsMoved, MovesAt, enable_of, enable_needs}
use Rattle.dft_fault_lanes.specs.Idle.{is_idle, is_left, AreIdleUnknown}
use Rattle.dft_fault_lanes.specs.Made.{IsPlan}
use Rattle.dft_fault_lanes.proofs.CellLemmas.{past_unknown, taken_by, taken_past, has_or_not}
use Rattle.dft_fault_lanes.proofs.IdleLemmas.{idle_next, left_idle}
use Rattle.dft_fault_lanes.proofs.SteadyLemmas.{force_has}
use Rattle.dft_fault_lanes.proofs.SeenLemmas.{marked_seen, needs_known, shown_known, knows_settled, shows_held}
use Rattle.dft_fault_lanes.proofs.WholeLemmas.{both_sets}

-- ---- which registers move

-- the value of an enable is 1 only where it is the steer's
pub steer_found : (s : Steer) (source : Source) → enable_at s source ≡ One → (s.value ≡ One) × (source ≡ Net s.net.0)
steer_found s (Net net) is = elim (eqb_tells net s.net.0) [
  | inl same ↦ (ap (λ (b : Bool). if b then s.value else Unknown) (sym same.0) ∙ is, ap Net same.1)
  | inr other ↦ absurd (let e : Unknown ≡ One = ap (λ (b : Bool). if b then s.value else Unknown) (sym other.0) ∙ is in let f : ⊥ = cc in f)
]
steer_found s (Tied bit) is = absurd (let f : ⊥ = cc in f)
steer_found s (Loose i pin) is = absurd (let f : ⊥ = cc in f)

pub moved_first : (ops : List Op) (clamps : List (Option Clamp)) (s : Steer) (cell : Cell) (cells : List ℕ) (index : ℕ) → index ≡ 0 → IsMoved ops clamps s cell (course_from cells index)
moved_first ops clamps s cell cells index is = subst (λ (i : ℕ). IsMoved ops clamps s cell (course_from cells i)) (sym is) tt

pub moved_next : (ops : List Op) (clamps : List (Option Clamp)) (s : Steer) (cell : Cell) (cells : List ℕ) (index : ℕ) → 0 < index → TakesFrom ops clamps s cell (slice_index_or cells (index - 1) 0) → IsMoved ops clamps s cell (course_from cells index)
moved_next ops clamps s cell cells zero less t = absurd (omega arith)
moved_next ops clamps s cell cells (suc index) less t = let e : suc index - 1 ≡ index = omega arith in subst (λ (i : ℕ). TakesFrom ops clamps s cell (slice_index_or cells i 0)) e t

-- all registers but the first
pub raised_more : (moves : List Bool) (number : ℕ) → number < length moves → (0 < number → flag_at moves 0 ≡ false) → 0 < number + 1 → flag_at (slice_set moves number (nat_lt 0 number)) 0 ≡ false
raised_more moves number less before h = elim (eqb_tells 0 number) [
  | inl same ↦ (let here : flag_at (slice_set moves number (nat_lt 0 number)) number ≡ nat_lt 0 number = get_or-set_same moves number (nat_lt 0 number) false less in
      ap (λ (k : ℕ). flag_at (slice_set moves number (nat_lt 0 number)) k) same.1 ∙ here ∙ ap (nat_lt 0) (sym same.1))
  | inr other ↦ (let ne : 0 ≢ number = other.1 in get_or-set_other moves number 0 (nat_lt 0 number) false ne ∙ before (omega (arith, ne)))
]

pub raised_ends : (moves : List Bool) (number : ℕ) → length moves ≤ number → (0 < number → flag_at moves 0 ≡ false) → flag_at moves 0 ≡ false
raised_ends [] number past before = refl
raised_ends (up ∷ moves) number past before = before (omega (arith, past))

-- where a register moves yet, the cells before one may move
pub record MovingTo (ops : List Op) (clamps : List (Option Clamp)) (flops : List FlipFlop) (s : Steer) (pulsed : List Bool) (l : Layout) (moves : List Bool) (cell : ℕ) : Type 0 where
  pub rests : flag_at moves 0 ≡ false
  pub each : (c : ℕ) → c < cell → flag_at moves (place_at l.places c).register ≡ true → MovesAt ops clamps s pulsed l (flop_at flops c) c

pub moving_starts : (ops : List Op) (clamps : List (Option Clamp)) (flops : List FlipFlop) (s : Steer) (pulsed : List Bool) (l : Layout) (moves : List Bool) → flag_at moves 0 ≡ false → MovingTo ops clamps flops s pulsed l moves 0
moving_starts ops clamps flops s pulsed l moves rests = record { rests = rests; each = λ c less. absurd (omega arith) }

pub moving_more : (ops : List Op) (clamps : List (Option Clamp)) (flops : List FlipFlop) (s : Steer) (pulsed : List Bool) (l : Layout) (moves now : List Bool) (place : ℕ) (flop : FlipFlop) → place < length flops → flop ≡ get_or flops place flop →
    ((r : ℕ) → flag_at now r ≡ true → flag_at moves r ≡ true) → (flag_at now (place_at l.places place).register ≡ true → MovesAt ops clamps s pulsed l (cell_of flop) place) →
    MovingTo ops clamps flops s pulsed l moves place → MovingTo ops clamps flops s pulsed l now (place + 1)
moving_more ops clamps flops s pulsed l moves now place flop less read fewer here old =
    let cell : cell_of flop ≡ flop_at flops place = ap cell_of read ∙ cell_read flops place flop less in
    record {
      rests = elim (cases_Bool (flag_at now 0)) [
        | inl up ↦ absurd (true≢false (sym (fewer 0 up) ∙ old.rests))
        | inr down ↦ down
      ];
      each = λ c before up. elim (cases_eq c place) [
        | inl e ↦ (let M : ℕ → Type 0 = λ i. MovesAt ops clamps s pulsed l (flop_at flops i) i in
            let N : Cell → Type 0 = λ k. MovesAt ops clamps s pulsed l k place in
            subst M (sym e) (subst N cell (here (subst (λ (i : ℕ). flag_at now (place_at l.places i).register ≡ true) e up))))
        | inr ne ↦ old.each c (omega (arith, before, ne)) (fewer (place_at l.places c).register up)
      ];
    }

-- the register of a cell is left out
pub moving_less : (ops : List Op) (clamps : List (Option Clamp)) (flops : List FlipFlop) (s : Steer) (pulsed : List Bool) (l : Layout) (moves now : List Bool) (place : ℕ) → ((r : ℕ) → flag_at now r ≡ true → flag_at moves r ≡ true) →
    flag_at now (place_at l.places place).register ≡ false → MovingTo ops clamps flops s pulsed l moves place → MovingTo ops clamps flops s pulsed l now (place + 1)
moving_less ops clamps flops s pulsed l moves now place fewer out old = record {
  rests = elim (cases_Bool (flag_at now 0)) [
    | inl up ↦ absurd (true≢false (sym (fewer 0 up) ∙ old.rests))
    | inr down ↦ down
  ];
  each = λ c before up. elim (cases_eq c place) [
    | inl e ↦ absurd (true≢false (sym (subst (λ (i : ℕ). flag_at now (place_at l.places i).register ≡ true) e up) ∙ out))
    | inr ne ↦ old.each c (omega (arith, before, ne)) (fewer (place_at l.places c).register up)
  ];
}

-- ---- what a cell reads that takes the value of another one

shows_has : (needs : ℕ → Bool) (ops : List Op) (clamps : List (Option Clamp)) (source : Source) (other : ℕ) → ShowsCell ops clamps source other → ((net : ℕ) → cell_shown ops clamps net ≡ Some other → needs net ≡ true) → HasAll needs (nets_of (source ∷ []))
shows_has needs ops clamps (Net net) other is shows = (shows net is, tt)
shows_has needs ops clamps (Tied bit) other is shows = absurd is
shows_has needs ops clamps (Loose i pin) other is shows = absurd is

shows_value : (ops : List Op) (clamps : List (Option Clamp)) (source : Source) (other : ℕ) (values : ℕ → Tri) (v : Tri) → ShowsCell ops clamps source other → ((net : ℕ) → cell_shown ops clamps net ≡ Some other → values net ≡ v) → value_from values source ≡ v
shows_value ops clamps (Net net) other values v is shows = shows net is
shows_value ops clamps (Tied bit) other values v is shows = absurd is
shows_value ops clamps (Loose i pin) other values v is shows = absurd is

-- the steer's net is 1
steer_one : (s : Steer) (values : ℕ → Tri) → s.value ≡ One → Steers s values → values s.net.0 ≡ One
steer_one s values one (inl none) = absurd (let e : Unknown ≡ One = sym none ∙ one in let f : ⊥ = cc in f)
steer_one s values one (inr is) = is ∙ one

takes_reads : (needs : ℕ → Bool) (ops : List Op) (clamps : List (Option Clamp)) (s : Steer) (cell : Cell) (other : ℕ) → TakesFrom ops clamps s cell other → HasAll needs (enable_needs cell) →
    ((net : ℕ) → cell_shown ops clamps net ≡ Some other → needs net ≡ true) → HasReadsOf needs s cell
takes_reads needs ops clamps s cell other t enable shows ports values steers =
    let E : Option (Scan Source) → Type 0 = λ o. HasAll needs (enable_of o) in
    let first : HasAll needs (nets_of (t.scan.enable ∷ [])) = subst E t.pins enable in
    let last : HasAll needs (nets_of (t.scan.input ∷ [])) = shows_has needs ops clamps t.scan.input other t.input shows in
    let one : value_from values t.scan.enable ≡ One = ap (value_from values) t.enable ∙ steer_one s values t.steered steers in
    let R : Tri → Type 0 = λ v. HasAll needs (nets_of (t.scan.enable ∷ chosen_reads v t.scan.input cell.takes.input)) in
    let both : R (value_from values t.scan.enable) = subst R (sym one) (more_all needs t.scan.enable (t.scan.input ∷ []) first last) in
    let T : Option (Scan Source) → Type 0 = λ o. HasAll needs (nets_of (taken_reads o (value_from values) cell.takes.input)) in
    force_has needs cell.forces ports (taken_reads cell.takes.scan (value_from values) cell.takes.input) (subst T (sym t.pins) both)

-- no reset or set acts on it
stays_so : (s : Steer) (cell : Cell) (ports : ℕ → Tri) → (cell.forces ≡ no_forces) ⊎ (s.free ≡ true) → (s.free ≡ true → (t : Tri) → tri_forced_by cell.forces ports t ≡ t) → (t : Tri) → tri_forced_by cell.forces ports t ≡ t
stays_so s cell ports (inl none) free t = ap (λ (f : Forces ℕ). tri_forced_by f ports t) none
stays_so s cell ports (inr is) free t = free is t

takes_value : (ops : List Op) (clamps : List (Option Clamp)) (s : Steer) (cell : Cell) (other : ℕ) (ports values : ℕ → Tri) (v : Tri) → TakesFrom ops clamps s cell other → (s.free ≡ true → (t : Tri) → tri_forced_by cell.forces ports t ≡ t) → Steers s values → ((net : ℕ) → cell_shown ops clamps net ≡ Some other → values net ≡ v) →
    next_at cell ports values ≡ v
takes_value ops clamps s cell other ports values v t free steers shows =
    let at : Source → Tri = value_from values in
    let forced : next_at cell ports values ≡ taken_at cell values = stays_so s cell ports t.loose free (taken_at cell values) in
    let scanned : taken_at cell values ≡ tri_chosen (at t.scan.enable) (at t.scan.input) (at cell.takes.input) = ap (λ (o : Option (Scan Source)). tri_scanned o at (at cell.takes.input)) t.pins in
    let one : at t.scan.enable ≡ One = ap at t.enable ∙ steer_one s values t.steered steers in
    forced ∙ scanned ∙ ap (λ (e : Tri). tri_chosen e (at t.scan.input) (at cell.takes.input)) one ∙ chosen_one (at t.scan.input) (at cell.takes.input) ∙ shows_value ops clamps t.scan.input other values v t.input shows

-- ---- a cell that is carried

-- the cell before it, of which it takes the value, and where its register moves
pub record Carried (x : Circuit) (clamps : List (Option Clamp)) (l : Layout) (p : Plan) (c : ℕ) : Type 0 where
  pub changed : is_changed (flop_at x.flops c) true p.pulsed.items ≡ true
  pub other : ℕ
  pub from : TakesFrom x.ops clamps p.steer (flop_at x.flops c) other
  pub follows : course l (map shifts_if p.moves.items) c ≡ Follows other

moved_from : (ops : List Op) (clamps : List (Option Clamp)) (s : Steer) (cell : Cell) (cells : List ℕ) (index : ℕ) → nat_lt 0 index ≡ true → IsMoved ops clamps s cell (course_from cells index) → (other : ℕ) × (TakesFrom ops clamps s cell other × (course_from cells index ≡ Follows other))
moved_from ops clamps s cell cells zero up is = absurd (true≢false (sym up))
moved_from ops clamps s cell cells (suc index) up is = (slice_index_or cells index 0, (is, refl))

pub carried : (x : Circuit) (clamps : List (Option Clamp)) (l : Layout) (signals : List NetId) (p : Plan) (c : ℕ) → IsPlan x clamps l signals p → c < length x.flops → is_carried l p.moves.items c ≡ true → Carried x clamps l p c
carried x clamps l signals p c is near up =
    let place = place_at l.places c in
    let both = and_parts (flag_at p.moves.items place.register) (nat_lt 0 place.index) up in
    let at = is.moving c near both.0 in
    let from = moved_from x.ops clamps p.steer (flop_at x.flops c) (cells_at l.registers place.register) place.index both.1 at.1 in
    record {
      changed = at.0;
      other = from.0;
      from = from.1.0;
      follows = ap (λ (m : Move). course_in l.registers place.register m place.index) (flagged p.moves.items place.register ∙ ap shifts_if both.0) ∙ from.1.1;
    }

takes_once : (falling : Bool) → takes true falling ≡ true → takes false falling ≡ true → ⊥
takes_once true up down = true≢false (sym up)
takes_once false up down = true≢false (sym down)

-- a cell that takes a value at a fall is not carried
pub falls_stay : (x : Circuit) (clamps : List (Option Clamp)) (l : Layout) (signals : List NetId) (p : Plan) (c : ℕ) → IsPlan x clamps l signals p → is_changed (flop_at x.flops c) false p.pulsed.items ≡ true → is_carried l p.moves.items c ≡ false
falls_stay x clamps l signals p c is down = elim (leb_tells (length x.flops) c) [
  | inl far ↦ absurd (true≢false (sym down ∙ ap (λ (k : Cell). is_changed k false p.pulsed.items) (cell_past x.flops c far.1) ∙ and_false (flag_at p.pulsed.items 0)))
  | inr near ↦ elim (cases_Bool (is_carried l p.moves.items c)) [
    | inl up ↦ (let cell = flop_at x.flops c in
        let rising = and_parts (flag_at p.pulsed.items cell.domain) (takes true cell.falling) (carried x clamps l signals p c is near.1 up).changed in
        let falling = and_parts (flag_at p.pulsed.items cell.domain) (takes false cell.falling) down in
        absurd (takes_once cell.falling rising.1 falling.1))
    | inr rests ↦ rests
  ]
]

-- ---- reads

-- all that a cell reads is known
pub reads_known : (x : Circuit) (clamps : List (Option Clamp)) (l : Layout) (signals : List NetId) (p : Plan) (c : ℕ) → IsPlan x clamps l signals p → HasReadsOf (knows x.ops clamps p.marked.items) p.steer (flop_at x.flops c)
reads_known x clamps l signals p c is =
    let needs : ℕ → Bool = needs_of (length x.ops) p.marked.items in
    let known : ℕ → Bool = knows x.ops clamps p.marked.items in
    let wider : (k : ℕ) → needs k ≡ true → known k ≡ true = needs_known x.ops clamps p.marked.items in
    elim (leb_tells (length x.flops) c) [
      | inl far ↦ λ ports values steers. (let Q : Cell → Type 0 = λ k. HasAll known (nets_of (next_reads k ports (value_from values))) in subst Q (sym (cell_past x.flops c far.1)) tt)
      | inr near ↦ elim (cases_Bool (is_carried l p.moves.items c)) [
        | inl up ↦ (let it = carried x clamps l signals p c is near.1 up in
            takes_reads known x.ops clamps p.steer (flop_at x.flops c) it.other it.from (all_wider needs known (enable_needs (flop_at x.flops c)) wider (is.enables c))
            (λ net shown. shown_known x.ops clamps p.marked.items net it.other shown))
        | inr stays ↦ λ ports values steers. all_wider needs known (nets_of (next_reads (flop_at x.flops c) ports (value_from values))) wider (is.reads c stays ports values steers)
      ]
    ]

-- the steer is seen as it is
pub steers_seen : (x : Circuit) (clamps : List (Option Clamp)) (l : Layout) (signals : List NetId) (p : Plan) (held wides : List Wide) (lane : ℕ) → IsPlan x clamps l signals p → length wides ≡ length x.ops → Steers p.steer (values_in wides lane) →
    Steers p.steer (values_in (seen x.ops clamps p.marked.items held wides) lane)
steers_seen x clamps l signals p held wides lane is size (inl none) = inl none
steers_seen x clamps l signals p held wides lane is size (inr at) = inr (ap (λ (w : Wide). value_in w lane) (marked_seen x.ops clamps p.marked.items held wides p.steer.net.0 size is.steered) ∙ at)

taken_by_enable : (scan : Option (Scan Source)) (v w : ℕ → Tri) (data_in : Source) → Agree v w (enable_of scan) → taken_reads scan (value_from v) data_in ≡ taken_reads scan (value_from w) data_in
taken_by_enable None v w d same = refl
taken_by_enable (Some scan) v w d same = ap (λ (e : Tri). scan.enable ∷ chosen_reads e scan.input d) (source_agrees v w scan.enable same)

-- what a cell reads is told by its scan enable
reads_by_enable : (cell : Cell) (ports v w : ℕ → Tri) → Agree v w (enable_needs cell) → next_reads cell ports (value_from v) ≡ next_reads cell ports (value_from w)
reads_by_enable cell ports v w same = ap (forced_reads cell.forces ports) (taken_by_enable cell.takes.scan v w cell.takes.input same)

-- ---- which lanes stay live

-- where all read what is still, every lane does
pub all_steady_by : (x : Circuit) (clamps : List (Option Clamp)) (l : Layout) (signals : List NetId) (p : Plan) (held wides : List Wide) (live : Wide) → IsPlan x clamps l signals p → length wides ≡ length x.ops → p.steady ≡ true → SteersAll p.steer wides →
    KeepsSteady x.flops true p.pulsed.items (knows x.ops clamps p.marked.items) p.rises.items (seen x.ops clamps p.marked.items held wides) live live
all_steady_by x clamps l signals p held wides live is size steady steers lane within h = (
  h,
  λ c up ports. (let values : ℕ → Tri = values_in (seen x.ops clamps p.marked.items held wides) lane in
      let on = steers_seen x clamps l signals p held wides lane is size (steers lane within) in
      both_sets (knows x.ops clamps p.marked.items) (shown_at p.rises.items) (flop_at x.flops c).domain (nets_of (next_reads (flop_at x.flops c) ports (value_from values)))
      (reads_known x clamps l signals p c is ports values on) (is.steady steady c up ports values on)),
)

-- what is still is of the nets that are known
pub keeps_known : (x : Circuit) (clamps : List (Option Clamp)) (l : Layout) (signals : List NetId) (p : Plan) (held wides : List Wide) (old new : Wide) → IsPlan x clamps l signals p → length wides ≡ length x.ops → SteersAll p.steer wides →
    KeepsSteady x.flops true p.pulsed.items every p.rises.items wides old new → KeepsSteady x.flops true p.pulsed.items (knows x.ops clamps p.marked.items) p.rises.items (seen x.ops clamps p.marked.items held wides) old new
keeps_known x clamps l signals p held wides old new is size steers keeps lane within h =
    let was = keeps lane within h in (
      was.0,
      λ c up ports. (let v : ℕ → Tri = values_in wides lane in
          let w : ℕ → Tri = values_in (seen x.ops clamps p.marked.items held wides) lane in
          let cell : Cell = flop_at x.flops c in
          let same : Agree v w (enable_needs cell) = set_agrees (needs_of (length x.ops) p.marked.items) v w (enable_needs cell) (is.enables c)
          (λ net need. sym (ap (λ (u : Wide). value_in u lane) (marked_seen x.ops clamps p.marked.items held wides net size need))) in
          let H : List Source → Type 0 = λ r. HasAll (still_needs every (shown_at p.rises.items) cell.domain) (nets_of r) in
          both_sets (knows x.ops clamps p.marked.items) (shown_at p.rises.items) cell.domain (nets_of (next_reads cell ports (value_from w)))
          (reads_known x clamps l signals p c is ports w (steers_seen x clamps l signals p held wides lane is size (steers lane within))) (subst H (reads_by_enable cell ports v w same) (was.1 c up ports))),
    )

-- ---- what cells take

-- the next value of a cell, where two assignments agree on what it reads
next_same : (x : Circuit) (ports : List Tri) (c : ℕ) (v w : ℕ → Tri) → Agree v w (nets_of (next_reads (flop_at x.flops c) (value_at ports) (value_from v))) → next_at (flop_at x.flops c) (value_at ports) v ≡ next_at (flop_at x.flops c) (value_at ports) w
unfolding logic_at
next_same x ports c v w same = next_agrees (logic_at x) (record { rising = true; ports = value_at ports; pulsed = λ e. false; old = v }) c (λ d. v) (λ d. w) same

-- a cell that is not listed is carried, or it takes no value or is idle, and stays
abbrev Kept : (x : Circuit) → List (Option Clamp) → Layout → Plan → (old new : List Wide) → (c : ℕ) → Type 0
Kept x clamps l p old new c =
    ((it : Carried x clamps l p c) × (wide_at new c ≡ wide_at old it.other))
    ⊎ (((is_changed (flop_at x.flops c) true p.pulsed.items ≡ false) ⊎ (is_idle (flop_at x.flops c) ≡ true)) × (wide_at new c ≡ wide_at old c))

zero_is : (n : ℕ) → (n == 0) ≡ true → n ≡ 0
zero_is n up = elim (eqb_tells n 0) [ inl same ↦ same.1 | inr other ↦ absurd (true≢false (sym up ∙ other.0)) ]

kept_at : (x : Circuit) (clamps : List (Option Clamp)) (signals : List NetId) (p : Plan) (old new : Contents Wide) (c : ℕ) → IsPlan x clamps old.layout signals p → length old.values ≡ length x.flops → IsShifted unknown_wide (map shifts_if p.moves.items) old new → c < length x.flops →
    (Has p.taking.items c → ⊥) → Kept x clamps old.layout p old.values new.values c
kept_at x clamps signals p old new c is size shifted near none =
    let l : Layout = old.layout in
    let place = place_at l.places c in
    let at : IsCarried (wide_at old.values) c (wide_at new.values c) (course l (map shifts_if p.moves.items) c) = shifted.each c (omega (arith, size, near)) in
    let C : Course → Type 0 = λ k. IsCarried (wide_at old.values) c (wide_at new.values c) k in
    let stays : flag_at p.moves.items place.register ≡ false → wide_at new.values c ≡ wide_at old.values c = λ still. subst C (ap (λ (m : Move). course_in l.registers place.register m place.index) (flagged p.moves.items place.register ∙ ap shifts_if still)) at in
    elim (cases_Bool (is_carried l p.moves.items c)) [
      | inl up ↦ (let it = carried x clamps l signals p c is near up in inl (it, subst C it.follows at))
      | inr down ↦ elim (cases_Bool (is_changed (flop_at x.flops c) true p.pulsed.items)) [
        | inl changes ↦ elim (cases_Bool (is_left l p.moves.items x.flops c)) [
          | inl left ↦ (let idle = left_idle (is_carried l p.moves.items c) (is_idle (flop_at x.flops c)) (place.register == 0) down left in
              inr (inr idle.0, stays (ap (flag_at p.moves.items) (zero_is place.register idle.1) ∙ is.rests)))
          | inr taken ↦ absurd (none (is.taking.0 c near changes taken))
        ]
        | inr rests ↦ elim (cases_Bool (flag_at p.moves.items place.register)) [
          | inl moves ↦ absurd (true≢false (sym (is.moving c near moves).0 ∙ rests))
          | inr still ↦ inr (inl rests, stays still)
        ]
      ]
    ]

-- each cell that is not listed can be something in each lane
pub shifted_wides : (x : Circuit) (clamps : List (Option Clamp)) (signals : List NetId) (p : Plan) (old new : Contents Wide) → IsPlan x clamps old.layout signals p → length old.values ≡ length x.flops → IsShifted unknown_wide (map shifts_if p.moves.items) old new → AreWides old.values →
    (c : ℕ) → (Has p.taking.items c → ⊥) → IsWide (wide_at new.values c) (value_in (wide_at new.values c))
shifted_wides x clamps signals p old new is size shifted whole c none =
    let W : Wide → Type 0 = λ w. IsWide w (value_in w) in
    elim (leb_tells (length x.flops) c) [
      | inl far ↦ (let out : length new.values ≤ c = omega (arith, far.1, size, shifted.count) in subst W (sym (get_or_past new.values c unknown_wide out)) (wide_is unknown_wide (λ lane. Unknown) all_unknown))
      | inr near ↦ kept_wide x clamps old.layout p old.values new.values c whole (kept_at x clamps signals p old new c is size shifted near.1 none)
    ] where
      kept_wide : (x : Circuit) (clamps : List (Option Clamp)) (l : Layout) (p : Plan) (old new : List Wide) (c : ℕ) → AreWides old → Kept x clamps l p old new c → IsWide (wide_at new c) (value_in (wide_at new c))
      kept_wide x clamps l p old new c whole (inl moved) = let W : Wide → Type 0 = λ w. IsWide w (value_in w) in subst W (sym moved.1) (whole moved.0.other)
      kept_wide x clamps l p old new c whole (inr stays) = let W : Wide → Type 0 = λ w. IsWide w (value_in w) in subst W (sym stays.1) (whole c)

if_true : (b : Bool) (s t : Tri) → b ≡ true → s ≡ (if b then s else t)
if_true true s t is = refl
if_true false s t is = absurd (true≢false (sym is))

if_false : (b : Bool) (s t : Tri) → b ≡ false → t ≡ (if b then s else t)
if_false true s t is = absurd (true≢false is)
if_false false s t is = refl

if_same : (b : Bool) (s t : Tri) → s ≡ t → t ≡ (if b then s else t)
if_same true s t is = sym is
if_same false s t is = refl

-- registers move and the listed cells take their values: so all cells do
pub moves_taken : (x : Circuit) (clamps : List (Option Clamp)) (signals : List NetId) (p : Plan) (ports : List Tri) (wides : List Wide) (old shifted new : Contents Wide) → IsPlan x clamps old.layout signals p → length old.values ≡ length x.flops → length wides ≡ length x.ops →
    SteersAll p.steer wides → (p.steer.free ≡ true → NoneActs x.flops ports) → AreIdleUnknown x.flops old.values → IsShifted unknown_wide (map shifts_if p.moves.items) old shifted → length new.values ≡ length shifted.values →
    ((lane c : ℕ) → lane < 512 → Has p.taking.items c → values_in new.values lane c ≡ next_at (flop_at x.flops c) (value_at ports) (values_in wides lane)) → ((c : ℕ) → (Has p.taking.items c → ⊥) → wide_at new.values c ≡ wide_at shifted.values c) →
    AreSettledOn x.ops (at_levels ports [] old.values clamps) (needs_of (length x.ops) p.marked.items) wides →
    AreTaken x.flops true p.pulsed.items ports (seen x.ops clamps p.marked.items old.values wides) old.values new.values
moves_taken x clamps signals p ports wides old shifted new is size count steers free idle moved len taken kept settled lane c within =
    let cell : Cell = flop_at x.flops c in
    let view : List Wide = seen x.ops clamps p.marked.items old.values wides in
    let v : ℕ → Tri = values_in wides lane in
    let w : ℕ → Tri = values_in view lane in
    let up : Bool = is_changed cell true p.pulsed.items in
    let next : Tri = next_at cell (value_at ports) w in
    let on : Steers p.steer w = steers_seen x clamps old.layout signals p old.values wides lane is count (steers lane within) in
    elim (leb_tells (length x.flops) c) [
      | inl far ↦ (let first : length old.values ≤ c = omega (arith, far.1, size) in
          let second : length new.values ≤ c = omega (arith, far.1, size, moved.count, len) in
          past_unknown new.values lane c second within ∙ sym (taken_past x.flops true p.pulsed.items ports view lane c far.1)
          ∙ ap (taken_by x.flops true p.pulsed.items ports view lane c) (sym (past_unknown old.values lane c first within)))
      | inr near ↦ elim (has_or_not p.taking.items c) [
        | inl h ↦ (let here = (is.taking.1 c h).1 in
            let same : Agree v w (nets_of (next_reads cell (value_at ports) (value_from v))) = set_agrees (needs_of (length x.ops) p.marked.items) v w (nets_of (next_reads cell (value_at ports) (value_from v)))
            (is.reads c (neither (is_carried old.layout p.moves.items c) (is_idle cell && ((place_at old.layout.places c).register == 0)) here.1) (value_at ports) v (steers lane within)) (λ net need. sym (ap (λ (u : Wide). value_in u lane) (marked_seen x.ops clamps p.marked.items old.values wides net count need))) in
            taken lane c within h ∙ next_same x ports c v w same ∙ if_true up next (values_in old.values lane c) here.0)
        | inr none ↦ ap (λ (u : Wide). value_in u lane) (kept c none)
            ∙ kept_value x clamps old.layout p ports old.values shifted.values wides lane c within near.1 free idle on (knows_settled x ports [] old.values clamps p.marked.items wides count is.closed settled) (kept_at x clamps signals p old shifted c is size moved near.1 none)
      ]
    ] where
      kept_value : (x : Circuit) (clamps : List (Option Clamp)) (l : Layout) (p : Plan) (ports : List Tri) (old new wides : List Wide) (lane c : ℕ) → lane < 512 → c < length x.flops → (p.steer.free ≡ true → NoneActs x.flops ports) → AreIdleUnknown x.flops old → Steers p.steer (values_in (seen x.ops clamps p.marked.items old wides) lane) →
          AreSettledOn x.ops (at_levels ports [] old clamps) (knows x.ops clamps p.marked.items) (seen x.ops clamps p.marked.items old wides) → Kept x clamps l p old new c →
          values_in new lane c ≡ (if is_changed (flop_at x.flops c) true p.pulsed.items then next_at (flop_at x.flops c) (value_at ports) (values_in (seen x.ops clamps p.marked.items old wides) lane) else values_in old lane c)
      kept_value x clamps l p ports old new wides lane c within near free idle on settled (inl moved) =
          let it = moved.0 in
          let w : ℕ → Tri = values_in (seen x.ops clamps p.marked.items old wides) lane in
          ap (λ (u : Wide). value_in u lane) moved.1
          ∙ sym (takes_value x.ops clamps p.steer (flop_at x.flops c) it.other (value_at ports) w (values_in old lane it.other) it.from (λ up t. free up c near t) on
          (λ net shown. shows_held x ports [] old clamps p.marked.items (seen x.ops clamps p.marked.items old wides) lane net it.other within shown settled))
          ∙ if_true (is_changed (flop_at x.flops c) true p.pulsed.items) (next_at (flop_at x.flops c) (value_at ports) w) (values_in old lane c) it.changed
      kept_value x clamps l p ports old new wides lane c within near free idle on settled (inr stays) =
          let w : ℕ → Tri = values_in (seen x.ops clamps p.marked.items old wides) lane in
          let up : Bool = is_changed (flop_at x.flops c) true p.pulsed.items in
          let next : Tri = next_at (flop_at x.flops c) (value_at ports) w in
          let same : values_in new lane c ≡ values_in old lane c = ap (λ (u : Wide). value_in u lane) stays.1 in
          elim stays.0 [
            | inl none ↦ same ∙ if_false up next (values_in old lane c) none
            | inr is ↦ same ∙ if_same up next (values_in old lane c) (idle_next (flop_at x.flops c) (value_at ports) w is ∙ sym (idle lane c within is))
          ]
