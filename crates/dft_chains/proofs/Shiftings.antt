-- What shift vectors do to scan chains: one vector in the views of its domains, then by induction over the vectors.
use Rattle.std.proofs.Common.{ℕ, zero, suc, ◌+◌, ◌≡◌, ◌==◌, ◌≤◌, Bool, true, false, not, ◌||◌, List, [], ◌∷◌, length, get_or, slice_get, option_and_then, Option, None, Some, refl, sym, subst, ap, arith, ◌∙◌}
use Rattle.std.specs.Prelude.{if◌then◌else◌}
use Rattle.std.proofs.lemmas.Bool.{eq-eqb}
use Rattle.std.proofs.lemmas.Option.{none-some, same_Some, slice_get_within, slice_get-get_or}
use Rattle.dft_base.specs.declared.tri.Tri.{Tri}
use Rattle.dft_base.specs.declared.tri.Tri.TheVariants.{Zero, One, Unknown}
use Rattle.dft_base.specs.Tri.{known, Above}
use Rattle.dft_base.proofs.BitLemmas.{or_true}
use Rattle.dft_cells.specs.FlipFlops.{Forces, forced_by, tri_taken_by, tri_forced_by}
use Rattle.dft_cells.proofs.TakesLemmas.{left_rests, bits_rest}
use Rattle.dft_netlist.specs.declared.ids.InstanceId.{InstanceId}
use Rattle.dft_netlist.specs.Drivers.{Source, Net}
use Rattle.dft_behavior.specs.Logic.{Logic, Ports, Input, Flop, Lockup, IsRanked}
use Rattle.dft_behavior.specs.Settled.{value_from, bit_given}
use Rattle.dft_behavior.specs.Runs.{Now, Moment, State, next_now, set_step, sources_of, port_bits, Vector, Turn, after_turn, AreTurns, AreLow, takes}
use Rattle.dft_behavior.proofs.SettledLemmas.{value_at}
use Rattle.dft_abstract.specs.Cycle.{Pulse, changes, closing, opening, view_sources, AreViews, next_value, after_pulse, rise_of, fall_of, Halves, AreHalves, after_halves}
use Rattle.dft_abstract.specs.Laws.{bits}
use Rattle.dft_abstract.proofs.Halves.{rises_change, rises_rest, falls_change, rising_after, falling_old}
use Rattle.dft_abstract.proofs.Lifts.{known_after_turn, low_after_turn}
use Rattle.dft_runs.specs.Passes.{after_turns}
use Rattle.dft_stitch.specs.Plans.{cell_at}
use Rattle.dft_chains.specs.Hardware.{ChainNets, ScanNets, ActByPorts, IsScanCell, Leads, Directly, AcrossEdges, ByLockup, HasChains, Shows, IsPlain, Enters}
use Rattle.dft_chains.specs.Shifts.{IsShift, LinkLaw, EntryLaw, IsShifted, ShiftInRuns, AreShifts, AreShifted, ShiftExperiment, at_strobe, EndsShow, EndsShowBefore}

-- ---- values

pub own_choice : (a b : Bool) (x y : Tri) → b ≡ true → (if a then (if b then x else y) else x) ≡ x
own_choice true true x y h = refl
own_choice true false x y h = absurd cc
own_choice false b x y h = refl

-- a cell has its old value in the view of its domain
pub own_net : (l : Logic) (p : Pulse) (poss : ℕ → Tri) (view : ℕ → ℕ → Tri) (d cell net : ℕ) → AreViews l p poss view → l.net net ≡ Flop cell false → (l.cell cell).domain ≡ d → view d net ≡ p.old cell
own_net l p poss view d cell net views at is =
    value_at l (view_sources l p poss view d) (view d) net (Flop cell false) (views d) at
    ∙ own_choice (changes l p cell) ((l.cell cell).domain == d) (p.old cell) (poss cell) (eq-eqb (l.cell cell).domain d is)

-- in a phase in which it takes no value it has it in every view
pub rest_net : (l : Logic) (p : Pulse) (poss : ℕ → Tri) (view : ℕ → ℕ → Tri) (d cell net : ℕ) → AreViews l p poss view → l.net net ≡ Flop cell false → changes l p cell ≡ false → view d net ≡ p.old cell
rest_net l p poss view d cell net views at is =
    value_at l (view_sources l p poss view d) (view d) net (Flop cell false) (views d) at
    ∙ ap (λ (b : Bool). if b then (if (l.cell cell).domain == d then p.old cell else poss cell) else p.old cell) is

-- a lock-up that takes its bit in a phase in which its clock pulses shows what its cell had
pub lock_net : (l : Logic) (p : Pulse) (poss : ℕ → Tri) (view : ℕ → ℕ → Tri) (d cell i net output : ℕ) (high : Bool) → AreViews l p poss view → l.net net ≡ Lockup i (l.cell cell).domain high (Net output) → l.net output ≡ Flop cell false →
    takes p.rising high ≡ true → p.pulsed (l.cell cell).domain ≡ true → view d net ≡ p.old cell
lock_net l p poss view d cell i net output high views at from closes pulses =
    let e : ℕ = (l.cell cell).domain in
    let held : Tri = p.old i in
    let here : Tri = view d output in
    let there : Tri = view e output in
    value_at l (view_sources l p poss view d) (view d) net (Lockup i e high (Net output)) (views d) at
    ∙ ap (λ (b : Bool). if b then closing p.rising (p.pulsed e) held there else opening (p.pulsed e) (e == d) high held here) closes
    ∙ ap (λ (b : Bool). if b then there else held) (ap (λ (b : Bool). p.rising || b) pulses ∙ or_true p.rising)
    ∙ own_net l p poss view e cell output views from refl

-- an input port has its value in every view
pub port_value : (l : Logic) (p : Pulse) (poss : ℕ → Tri) (view : ℕ → ℕ → Tri) (d net : ℕ) → AreViews l p poss view → l.net net ≡ Input → view d net ≡ p.ports net
port_value l p poss view d net views is = value_at l (view_sources l p poss view d) (view d) net Input (views d) is

-- ---- a scan cell in a shift vector

-- resets are 1, so they leave the value
pub not_forced : (ports : Ports) (e : ℕ) (x : Vector) (forces : Forces ℕ) (v : Tri) → ActByPorts ports forces → IsShift ports e x → tri_forced_by forces x.ports v ≡ v
not_forced ports e x forces v act shift = left_rests forces x.ports v (λ port has. shift.resets port (act port has))

pick_true : (b : Bool) (x y : Tri) → b ≡ true → (if b then x else y) ≡ x
pick_true true x y h = refl
pick_true false x y h = absurd cc

-- after a phase in which it takes a value a scan cell has that of its source in the view of its domain
pub takes_source : (l : Logic) (ports : Ports) (chains : List (List InstanceId)) (w : ChainNets) (x : Vector) (p : Pulse) (poss : ℕ → Tri) (view : ℕ → ℕ → Tri) (source : Source) (cell : ℕ) →
    HasChains l ports chains w → IsShift ports w.enable x → p.ports ≡ x.ports → AreViews l p poss view → changes l p cell ≡ true → IsScanCell l ports w.enable source cell →
    after_pulse l p view cell ≡ value_from (view (l.cell cell).domain) source
takes_source l ports chains w x p poss view source cell has shift same views turn is =
    let d : ℕ = (l.cell cell).domain in
    let at : Source → Tri = value_from (view d) in
    pick_true (changes l p cell) (next_value l p view cell) (p.old cell) turn
    ∙ ap (λ (f : ℕ → Tri). tri_forced_by (l.cell cell).forces f (tri_taken_by (l.cell cell).takes (p.old cell) at)) same
    ∙ not_forced ports w.enable x (l.cell cell).forces (tri_taken_by (l.cell cell).takes (p.old cell) at) is.forces shift
    ∙ is.takes (p.old cell) at (port_value l p poss view d w.enable views has.enable ∙ ap (λ (f : ℕ → Tri). f w.enable) same ∙ shift.enabled)

-- a rising cell in the rises, a falling one in the falls
pub rise_takes : (l : Logic) (ports : Ports) (chains : List (List InstanceId)) (w : ChainNets) (x : Vector) (old : ℕ → Tri) (h : Halves) (source : Source) (cell : ℕ) →
    HasChains l ports chains w → IsShift ports w.enable x → AreHalves l x old h → (l.cell cell).falling ≡ false → IsScanCell l ports w.enable source cell →
    after_halves l x old h cell ≡ value_from (h.rise.view (l.cell cell).domain) source
rise_takes l ports chains w x old h source cell has shift are rises is =
    rising_after l x old h cell rises
    ∙ takes_source l ports chains w x (rise_of l x old) h.rise.poss h.rise.view source cell has shift refl are.rise
    (rises_change l (rise_of l x old) cell rises refl ∙ shift.domains (l.cell cell).domain is.domain) is

pub fall_takes : (l : Logic) (ports : Ports) (chains : List (List InstanceId)) (w : ChainNets) (x : Vector) (old : ℕ → Tri) (h : Halves) (source : Source) (cell : ℕ) →
    HasChains l ports chains w → IsShift ports w.enable x → AreHalves l x old h → (l.cell cell).falling ≡ true → IsScanCell l ports w.enable source cell →
    after_halves l x old h cell ≡ value_from (h.fall.view (l.cell cell).domain) source
fall_takes l ports chains w x old h source cell has shift are falls is =
    takes_source l ports chains w x (fall_of l x old h.rise.view) h.fall.poss h.fall.view source cell has shift refl are.fall
    (falls_change l (fall_of l x old h.rise.view) cell falls refl ∙ shift.domains (l.cell cell).domain is.domain) is

-- what leads to a cell has the old value of the one before it, in the half in which the cell takes it
link_by : (l : Logic) (ports : Ports) (chains : List (List InstanceId)) (w : ChainNets) (x : Vector) (old : ℕ → Tri) (h : Halves) (cell next : ℕ) (from source : Source) (falling : Bool) →
    HasChains l ports chains w → IsShift ports w.enable x → AreHalves l x old h → (l.cell next).falling ≡ falling → IsScanCell l ports w.enable from cell → IsScanCell l ports w.enable source next → Leads l cell next source →
    after_halves l x old h next ≡ (rise_of l x old).old cell
link_by l ports chains w x old h cell next from _ false has shift are rises is is_next (Directly {net = net} at same edges) =
    rise_takes l ports chains w x old h (Net net) next has shift are rises is_next ∙ own_net l (rise_of l x old) h.rise.poss h.rise.view (l.cell next).domain cell net are.rise at same
link_by l ports chains w x old h cell next from _ false has shift are rises is is_next (AcrossEdges {net = net} at falls edge) =
    rise_takes l ports chains w x old h (Net net) next has shift are rises is_next
    ∙ rest_net l (rise_of l x old) h.rise.poss h.rise.view (l.cell next).domain cell net are.rise at (rises_rest l (rise_of l x old) cell falls refl)
link_by l ports chains w x old h cell next from _ false has shift are rises is is_next (ByLockup {net = net} {lockup = i} {output = q} {high = high} at out edge next_edge) =
    rise_takes l ports chains w x old h (Net net) next has shift are rises is_next
    ∙ lock_net l (rise_of l x old) h.rise.poss h.rise.view (l.cell next).domain cell i net q high are.rise at out (ap not (sym next_edge ∙ rises)) (shift.domains (l.cell cell).domain is.domain)
link_by l ports chains w x old h cell next from _ true has shift are falls is is_next (Directly {net = net} at same edges) =
    fall_takes l ports chains w x old h (Net net) next has shift are falls is_next
    ∙ own_net l (fall_of l x old h.rise.view) h.fall.poss h.fall.view (l.cell next).domain cell net are.fall at same ∙ falling_old l x old h.rise.view cell (edges ∙ falls)
link_by l ports chains w x old h cell next from _ true has shift are falls is is_next (AcrossEdges {net = net} at first edge) = absurd (let q : true ≡ false = sym falls ∙ edge in cc)
link_by l ports chains w x old h cell next from _ true has shift are falls is is_next (ByLockup {net = net} {lockup = i} {output = q} {high = high} at out edge next_edge) =
    fall_takes l ports chains w x old h (Net net) next has shift are falls is_next
    ∙ lock_net l (fall_of l x old h.rise.view) h.fall.poss h.fall.view (l.cell next).domain cell i net q high are.fall at out (sym next_edge ∙ falls) (shift.domains (l.cell cell).domain is.domain)
    ∙ falling_old l x old h.rise.view cell (edge ∙ sym next_edge ∙ falls)

pub link_law : LinkLaw
link_law l ports chains w x old h has shift are chain place cell next stands follows =
    link_by l ports chains w x old h cell.0 next.0 (w.into chain place) (w.into chain (suc place)) (l.cell next.0).falling has shift are refl (has.cells chain place cell stands) (has.cells chain (suc place) next follows)
    (has.links chain place cell next stands follows)
    ∙ not_forced ports w.enable x (l.cell cell.0).forces (old cell.0) (has.cells chain place cell stands).forces shift

entry_by : (l : Logic) (ports : Ports) (chains : List (List InstanceId)) (w : ScanNets) (x : Vector) (old : ℕ → Tri) (h : Halves) (chain cell : ℕ) (falling : Bool) →
    HasChains l ports chains w.nets → IsShift ports w.nets.enable x → AreHalves l x old h → (l.cell cell).falling ≡ falling → IsScanCell l ports w.nets.enable (w.nets.into chain zero) cell → Enters l w chain →
    after_halves l x old h cell ≡ x.ports (w.scan_in chain)
entry_by l ports chains w x old h chain cell false has shift are rises is enters =
    rise_takes l ports chains w.nets x old h (w.nets.into chain zero) cell has shift are rises is ∙ ap (value_from (h.rise.view (l.cell cell).domain)) enters.first
    ∙ port_value l (rise_of l x old) h.rise.poss h.rise.view (l.cell cell).domain (w.scan_in chain) are.rise enters.port
entry_by l ports chains w x old h chain cell true has shift are falls is enters =
    fall_takes l ports chains w.nets x old h (w.nets.into chain zero) cell has shift are falls is ∙ ap (value_from (h.fall.view (l.cell cell).domain)) enters.first
    ∙ port_value l (fall_of l x old h.rise.view) h.fall.poss h.fall.view (l.cell cell).domain (w.scan_in chain) are.fall enters.port

pub entry_law : EntryLaw
entry_law l ports chains w x old h has shift are chain cell stands enters = entry_by l ports chains w x old h chain cell.0 (l.cell cell.0).falling has shift are refl (has.cells chain zero cell stands) enters

-- ---- every run

above_by : (t : Tri) (b : Bool) → ((a : Bool) → t ≡ known a → b ≡ a) → Above t b
above_by Unknown b h = tt
above_by Zero b h = subst (Above Zero) (sym (h false refl)) tt
above_by One b h = subst (Above One) (sym (h true refl)) tt

pub shift_in_runs : ShiftInRuns
shift_in_runs l rank ports chains w x now t ranked plain shift low turn = record {
  entries = λ chain cell stands. above_by (x.ports (w.scan_in chain)) ((after_turn l x now t).state.flops cell.0)
      (λ a is. known_after_turn l rank x now t ranked low turn cell.0 a
      (λ h halves. entry_law l ports chains w x (bits now.state) h plain.has shift halves chain cell stands (plain.entries chain cell stands) ∙ is));
  links = λ chain place cell next stands follows. known_after_turn l rank x now t ranked low turn next.0 (now.state.flops cell.0)
      (λ h halves. link_law l ports chains w.nets x (bits now.state) h plain.has shift halves chain place cell next stands follows);
}

-- a chain that has a place has every place before it
earlier_in : (o : Option (List InstanceId)) (before place : ℕ) (cell : InstanceId) → option_and_then (λ cells. slice_get cells place) o ≡ Some cell → before ≤ place →
    (other : InstanceId) × (option_and_then (λ cells. slice_get cells before) o ≡ Some other)
earlier_in None before place cell is le = absurd (none-some cell is)
earlier_in (Some cells) before place cell is le = (get_or cells before cell, slice_get-get_or cells before cell (omega (arith, slice_get_within cells place cell is)))

earlier : (chains : List (List InstanceId)) (chain before place : ℕ) (cell : InstanceId) → cell_at chains chain place ≡ Some cell → before ≤ place → (other : InstanceId) × (cell_at chains chain before ≡ Some other)
earlier chains chain before place cell is le = earlier_in (slice_get chains chain) before place cell is le

-- the first vector of a list, and then the others
entered_more : (chains : List (List InstanceId)) (w : ScanNets) (x : Vector) (xs : List Vector) (old mid new : ℕ → Bool) → (first : IsShifted chains w x old mid) → (rest : AreShifted chains w xs mid new) →
    (chain place number : ℕ) (cell : InstanceId) (y : Vector) → (is : suc (place + number) ≡ suc (length xs)) → (at : slice_get (x ∷ xs) number ≡ Some y) → (stands : cell_at chains chain place ≡ Some cell) →
    Above (y.ports (w.scan_in chain)) (new cell.0)
entered_more chains w x xs old mid new first rest chain place zero cell y is at stands =
    let other = earlier chains chain zero place cell stands (omega arith) in
    subst (λ (v : Vector). Above (v.ports (w.scan_in chain)) (new cell.0)) (same_Some x y at)
    (subst (Above (x.ports (w.scan_in chain))) (sym (rest.passed chain zero place other.0 cell (omega (arith, is)) other.1 stands)) (first.entries chain other.0 other.1))
entered_more chains w x xs old mid new first rest chain place (suc number) cell y is at stands = rest.entered chain place number cell y (omega (arith, is)) at stands

shifted_more : (chains : List (List InstanceId)) (w : ScanNets) (x : Vector) (xs : List Vector) (old mid new : ℕ → Bool) → IsShifted chains w x old mid → AreShifted chains w xs mid new → AreShifted chains w (x ∷ xs) old new
shifted_more chains w x xs old mid new first rest = record {
  entered = λ chain place number cell y is at stands. entered_more chains w x xs old mid new first rest chain place number cell y is at stands;
  passed = λ chain before place other cell is other_stands stands. (
      let between = earlier chains chain (suc before) place cell stands (omega (arith, is)) in
      rest.passed chain (suc before) place between.0 cell (omega (arith, is)) between.1 stands ∙ first.links chain before other between.0 other_stands between.1
      );
}

shifted_none : (chains : List (List InstanceId)) (w : ScanNets) (old : ℕ → Bool) → AreShifted chains w [] old old
shifted_none chains w old = record {
  entered = λ chain place number cell x is at stands. absurd (none-some x at);
  passed = λ chain before place other cell is other_stands stands.
      ap (λ (c : InstanceId). old c.0) (same_Some cell other (sym stands ∙ ap (λ k. cell_at chains chain k) (omega (arith, is)) ∙ other_stands));
}

shifted : (l : Logic) (rank : ℕ → ℕ) (ports : Ports) (chains : List (List InstanceId)) (w : ScanNets) (xs : List Vector) (now : Now) (ts : List Turn) → IsRanked l rank → IsPlain l ports chains w → AreShifts ports w.nets.enable xs →
    AreLow now.state → AreTurns l now xs ts → AreShifted chains w xs now.state.flops (after_turns l now xs ts).state.flops
shifted l rank ports chains w [] now [] ranked plain shifts low turns = shifted_none chains w now.state.flops
shifted l rank ports chains w [] now (t ∷ ts) ranked plain shifts low turns = absurd turns
shifted l rank ports chains w (x ∷ xs) now [] ranked plain shifts low turns = absurd turns
shifted l rank ports chains w (x ∷ xs) now (t ∷ ts) ranked plain shifts low turns =
    let next : Now = after_turn l x now t in
    shifted_more chains w x xs now.state.flops next.state.flops (after_turns l next xs ts).state.flops (shift_in_runs l rank ports chains w x now t ranked plain shifts.0 low turns.0)
    (shifted l rank ports chains w xs next ts ranked plain shifts.1 (low_after_turn l rank x now t ranked low turns.0) turns.1)

-- all clocks are low after any turns
low_after_turns : (l : Logic) (rank : ℕ → ℕ) (xs : List Vector) (now : Now) (ts : List Turn) → IsRanked l rank → AreLow now.state → AreTurns l now xs ts → AreLow (after_turns l now xs ts).state
low_after_turns l rank [] now ts ranked low turns = low
low_after_turns l rank (x ∷ xs) now [] ranked low turns = absurd turns
low_after_turns l rank (x ∷ xs) now (t ∷ ts) ranked low turns = low_after_turns l rank xs (after_turn l x now t) ts ranked (low_after_turn l rank x now t ranked low turns.0) turns.1

pub shift_experiment : ShiftExperiment
shift_experiment l rank ports chains w before shifts start ts us ranked plain run are turns =
    shifted l rank ports chains w shifts (after_turns l start before ts) us ranked plain are (low_after_turns l rank before start ts ranked run.low run.turns) turns

-- ---- the scan outputs

pub ends_show : EndsShow
ends_show l ports chains w x now t plain turn chain place cell stands last =
    let at : Now = next_now l now (set_step x t) in
    let shows : Shows l cell.0 (w.scan_out chain) = plain.ends chain place cell stands last in
    turn.steps.0 (w.scan_out chain) ∙ ap (bit_given (sources_of at) t.strobe.seen (w.scan_out chain)) shows.buffer
    ∙ turn.steps.0 shows.output ∙ ap (bit_given (sources_of at) t.strobe.seen shows.output) shows.flop

bit_not_forced : (ports : Ports) (e : ℕ) (x : Vector) (s : State) (m : Moment) (forces : Forces ℕ) (b : Bool) → s.ports ≡ x.ports → ActByPorts ports forces → IsShift ports e x → forced_by forces (port_bits s m) b ≡ b
bit_not_forced ports e x s m forces b same act shift = bits_rest forces (port_bits s m) b (λ port has. rw (same, shift.resets port (act port has)) refl)

pub ends_show_before : EndsShowBefore
ends_show_before l ports chains w x now t plain shift turn chain place cell stands last =
    ends_show l ports chains w x now t plain turn chain place cell stands last
    ∙ bit_not_forced ports w.nets.enable x (at_strobe l x now t) t.strobe (l.cell cell.0).forces (now.state.flops cell.0) refl (plain.has.cells chain place cell stands).forces shift
