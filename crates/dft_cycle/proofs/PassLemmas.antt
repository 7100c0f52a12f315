-- A plan that is made passes every pulse that has its key.
use Rattle.std.proofs.Common.{ℕ, zero, suc, Bool, true, false, List, [], ◌∷◌, ◌≡◌, ◌<◌, ◌≤◌, inl, inr, Option, None, Some, All, length, map, drop, refl, sym, ap, ◌∙◌, subst, get_or, arith, not, ◌&&◌}
use Rattle.std.specs.Vec.{vec_capacity}
use Rattle.std.specs.Global.{Vec}
use Rattle.std.proofs.lemmas.Bool.Decides.{leb_tells}
use Rattle.std.proofs.lemmas.List.{get_or_past, length-map}
use Rattle.dft_base.specs.declared.tri.Tri.{Tri}
use Rattle.dft_base.specs.declared.tri.Tri.TheVariants.{Unknown}
use Rattle.dft_cells.specs.FlipFlops.{Scan, IsForceOf}
use Rattle.dft_netlist.specs.declared.ids.NetId.{NetId}
use Rattle.dft_netlist.specs.Drivers.{Source, Net, Tied, Loose}
use Rattle.dft_behavior.specs.Logic.{Cell, Free}
use Rattle.dft_behavior.specs.Settled.{value_from, value_given}
use Rattle.dft_netlist.specs.Orders.{Has, numbers_of}
use Rattle.dft_behavior.specs.Runs.{takes}
use Rattle.dft_abstract.specs.Cycle.{Pulse, level_before}
use Rattle.dft_takings.specs.declared.takings.Taking.{Taking}
use Rattle.dft_takings.specs.Needs.{strobe_from, before_from, AreSeen}
use Rattle.dft_takings.specs.Shows.{Shown, IsShownOn}
use Rattle.dft_takings.specs.Takes.{AreOrigins}
use Rattle.dft_takings.specs.Entries.{Entry, entry_value}
use Rattle.dft_logic.specs.Values.{value_at}
use Rattle.dft_logic.specs.Circuit.{Circuit, meaning, op_at, logic_at, cell_of, cell_at, next_at, IsCircuit}
use Rattle.dft_takings.specs.EntryTables.{scan_needs, entry_for}
use Rattle.dft_registers.specs.Layout.{Layout}
use Rattle.dft_registers.specs.declared.moves.Move.{Move}
use Rattle.dft_registers.specs.Cells.{Course, Rests, Enters, Follows, course, CanMove, IsCarried}
use Rattle.dft_takings.specs.Takings.{taking_at, taken_by, is_loose, IsLeft, ArePut, AreTakings}
use Rattle.dft_takings.proofs.EntryLemmas.{entry_stays}
use Rattle.dft_logic.proofs.Writings.{force_listed}
use Rattle.dft_takings.proofs.PlanLemmas.{planned}
use Rattle.dft_takings.proofs.TakingLemmas.{idle_value}
use Rattle.dft_cycle.specs.declared.plans.Pins.{Pins}
use Rattle.dft_cycle.specs.declared.plans.Plan.{Plan}
use Rattle.dft_cycle.specs.declared.plans.Stage.TheVariants.{Noted, Made, Barred}
use Rattle.dft_cycle.specs.declared.looks.Look.{Look}
use Rattle.dft_cycle.specs.Views.{Among}
use Rattle.dft_cycle.specs.declared.steps.Step.{Step}
use Rattle.dft_cycle.specs.Steps.{IsStep, step_nets}
use Rattle.dft_cycle.specs.Looks.{IsListed}
use Rattle.dft_takings.proofs.LookLemmas.{look_of_marked}
use Rattle.dft_takings.specs.ShownTables.{edges_of}
use Rattle.dft_cycle.specs.Plans.{row_of, flags_of, IsNeedList, IsPins, IsMade, IsPlan, IsNoted, IsFilled, LooseAreUnknown, IsPassed}

-- ---- the same key is the same at each pin

rows_same : {V : Type 0} (d : V) (f g : ℕ → V) (nets : List NetId) (k : ℕ) → map (λ net. f net.0) nets ≡ map (λ net. g net.0) nets → Has (numbers_of nets) k → f k ≡ g k
rows_same d f g [] k same h = absurd h
rows_same d f g (net ∷ nets) k same h = elim h [
  | inl e ↦ ap f e ∙ ap (λ (l : List _). get_or l 0 d) same ∙ sym (ap g e)
  | inr rest ↦ rows_same d f g nets k (ap (λ (l : List _). drop 1 l) same) rest
]

among_has : (clocks : List NetId) (place e : ℕ) → place < length clocks → (get_or clocks place (record { 0 = 0 })).0 ≡ e → Has (numbers_of clocks) e
among_has [] place e less is = absurd (omega arith)
among_has (clock ∷ clocks) zero e less is = inl (sym is)
among_has (clock ∷ clocks) (suc place) e less is = inr (among_has clocks place e (omega arith) is)

either_up : (b c : Bool) → (b ≡ true → b ≡ c) → (c ≡ true → b ≡ c) → b ≡ c
either_up true c f g = f refl
either_up false true f g = g refl
either_up false false f g = refl

pulsed_same : (clocks : List NetId) (p q : ℕ → Bool) → ((e : ℕ) → p e ≡ true → Among clocks (length clocks) e) → ((e : ℕ) → q e ≡ true → Among clocks (length clocks) e) → flags_of p clocks ≡ flags_of q clocks →
    (e : ℕ) → p e ≡ q e
pulsed_same clocks p q a b same e =
    let there : Among clocks (length clocks) e → p e ≡ q e = λ m. rows_same false p q clocks e same (among_has clocks m.place e m.before m.here) in
    either_up (p e) (q e) (λ up. there (a e up)) (λ up. there (b e up))

-- two values by net agree at these nets, where past a count both are unknown
at_nets : (f g : ℕ → Tri) (nets : List NetId) (count k : ℕ) → row_of f nets ≡ row_of g nets → ((i : ℕ) → count ≤ i → f i ≡ Unknown) → ((i : ℕ) → count ≤ i → g i ≡ Unknown) →
    (k < count → Has (numbers_of nets) k) → f k ≡ g k
at_nets f g nets count k same a b has = elim (leb_tells count k) [ inl out ↦ a k out.1 ∙ sym (b k out.1) | inr live ↦ rows_same Unknown f g nets k same (has live.1) ]

source_same : (f g : ℕ → Tri) (source : Source) → ((k : ℕ) → source ≡ Net k → f k ≡ g k) → value_from f source ≡ value_from g source
source_same f g (Net k) same = same k refl
source_same f g (Tied bit) same = refl
source_same f g (Loose i pin) same = refl

scan_here : (found : Option (Scan Source)) (scan : Scan Source) (k : ℕ) → found ≡ Some scan → scan.enable ≡ Net k → Has (scan_needs true found) k
scan_here None scan k is net = absurd cc
scan_here (Some s) scan k is net =
    let e : s ≡ scan = cc in
    let P : Source → Type 0 = λ source. Has (scan_needs true (Some (record { enable = source; input = s.input }))) k in
    subst P (sym (ap (λ (t : Scan Source). t.enable) e ∙ net)) (inl refl)

-- ---- the pulse by a plan

by_takings : (cells : ℕ → Cell) (q : Pulse) (v : ℕ → Tri) (table : ℕ → Entry) (count : ℕ) (moved : ℕ → Course) (takings : List Taking) (row : ℕ → Tri) (old new : List Tri) → AreTakings cells table count moved takings →
    ((c : ℕ) → q.old c ≡ value_at old c) → ((c : ℕ) → is_loose (cells c) ≡ true → value_at old c ≡ Unknown) → ((j : ℕ) → j < length takings → row j ≡ taken_by cells q v (taking_at takings j)) → length old ≡ count →
    ArePut takings (length takings) row moved old new → (c : ℕ) → c < count → value_at new c ≡ entry_value q.old v (next_at (cells c) q.ports v) c (table c)
by_takings cells q v table count moved takings row old new are same loose found size put c live =
    let G : ℕ → Tri = λ k. entry_value q.old v (next_at (cells k) q.ports v) k (table k) in
    elim (put.each c (omega (arith, size, live))) [
      | inl w ↦
          (let t : Taking = taking_at takings w.0 in
          w.1.1.1 ∙ found w.0 w.1.0 ∙ ap (entry_value q.old v (next_at (cells t.place) q.ports v) t.place) (sym (are.each w.0 w.1.0)) ∙ ap G w.1.1.0)
      | inr none ↦ elim (are.all c live) [
        | inl among ↦ absurd (none.0 among)
        | inr left ↦ go (moved c) left none.1
      ]
    ] where
      go : (course : Course) → IsLeft (cells c) (table c) course → IsCarried (value_at old) c (value_at new c) course → value_at new c ≡ entry_value q.old v (next_at (cells c) q.ports v) c (table c)
      go Rests idle carried = carried ∙ sym (same c) ∙ idle_value (cells c) q.old v (next_at (cells c) q.ports v) c (table c) idle (λ is. same c ∙ loose c is)
      go Enters left carried = absurd left
      go (Follows other) left carried = carried ∙ sym (same other) ∙ ap (entry_value q.old v (next_at (cells c) q.ports v) c) (sym left)

-- a phase is passed where the nets of a plan's steps are settled, what its takings take is found, and the cells are put as its course says
pub passed : (x : Circuit) (clocks : List NetId) (l : Layout) (pins : Pins) (plan : Plan) (q : Pulse) (values row old new : List Tri) → (is : IsCircuit x) → (pinned : IsPins x pins) → IsMade x clocks l pins plan →
    (among : ((e : ℕ) → q.pulsed e ≡ true → Among clocks (length clocks) e)) → (past : ((k : ℕ) → length x.ops ≤ k → q.ports k ≡ Unknown)) → (olds : ((c : ℕ) → q.old c ≡ value_at old c)) → (loose : LooseAreUnknown x (value_at old)) → (len : length values ≡ length x.ops) →
    (edge : plan.rising ≡ q.rising) → (flagged : plan.pulsed.items ≡ flags_of q.pulsed clocks) → (ports : plan.ports.items ≡ row_of q.ports pins.ports.items) → (enables : plan.enables.items ≡ row_of (value_at values) pins.enables.items) →
    (settled : ((k : ℕ) → Has (numbers_of (step_nets plan.steps.items)) k → value_at values k ≡ value_given (before_from q (value_at values)) (value_at values) k (meaning (op_at x.ops k)))) →
    (found : ((j : ℕ) → j < length plan.takings.items → value_at row j ≡ taken_by (cell_at (map cell_of x.flops)) q (value_at values) (taking_at plan.takings.items j))) → (size : length old ≡ length x.flops) →
    (put : ArePut plan.takings.items (length plan.takings.items) (value_at row) (course l plan.moves.items) old new) → IsPassed x q new
unfolding logic_at
passed x clocks l pins plan q values row old new is pinned m among past olds loose len edge flagged ports enables settled found size put =
    let v : ℕ → Tri = value_at values in
    let w : ℕ → Tri = value_at m.values in
    let count : ℕ = length x.ops in
    let cells : ℕ → Cell = cell_at (map cell_of x.flops) in
    let same : (e : ℕ) → m.pulse.pulsed e ≡ q.pulsed e = pulsed_same clocks m.pulse.pulsed q.pulsed m.key.among among (sym m.key.pulsed ∙ flagged) in
    let whole : m.pulse.pulsed ≡ q.pulsed = λ t e. same e t in
    let alike : m.pulse.rising ≡ q.rising = sym m.key.edge ∙ edge in
    let O : (ℕ → Bool) → Type 0 = λ level. AreOrigins (logic_at x) level m.origin in
    let S : (ℕ → Bool) → Type 0 = λ f. IsShownOn (logic_at x) (edges_of m.pulse.rising f) (λ net. true) m.shown in
    let R : Bool → Type 0 = λ b. IsShownOn (logic_at x) (edges_of b q.pulsed) (λ net. true) m.shown in
    let beyond : (l : List Tri) → length l ≡ count → (k : ℕ) → count ≤ k → value_at l k ≡ Unknown = λ l e k far. get_or_past l k Unknown (omega arith) in
    let port : (c k : ℕ) → c < length x.flops → IsForceOf (cells c).forces k → m.pulse.ports k ≡ q.ports k =
    λ c k live at. at_nets m.pulse.ports q.ports pins.ports.items count k (sym m.key.ports ∙ ports) m.past past (λ less. pinned.ports c k live less (force_listed (cells c).forces k at)) in
    let enable : (c : ℕ) (scan : Scan Source) → c < length x.flops → (cells c).takes.scan ≡ Some scan → value_from w scan.enable ≡ value_from v scan.enable =
    λ c scan live at. source_same w v scan.enable
    (λ k net. at_nets w v pins.enables.items count k (sym m.key.enables ∙ enables) (beyond m.values m.size) (beyond values len) (λ less. pinned.enables c k live less (scan_here (cells c).takes.scan scan k at net))) in
    let entries : (c : ℕ) → c < length x.flops → entry_for (cells c) q m.origin m.shown v ≡ Some (m.table c) =
    λ c live. sym (entry_stays (record { net = λ net. Free; cell = λ k. cells c }) m.pulse q m.origin m.shown w v 0 (λ t. same (cells c).domain t && takes (alike t) (cells c).falling) (λ k at. port c k live at) (λ scan at. enable c scan live at)) ∙ m.entries c live in
    let pass = planned x q m.origin m.shown m.table m.marked values new is len (subst O (λ t e. same e t && not (alike t)) m.origins) (subst R alike (subst S whole m.shows)) m.list.closed (λ k up. settled k (m.list.listed k up)) entries m.needed
    (by_takings cells q v m.table (length x.flops) (course l plan.moves.items) plan.takings.items (value_at row) old new m.takings olds loose found size put) in
    record { poss = pass.0; view = pass.1.0; least = pass.1.1.0; each = pass.1.1.1 }

-- ---- a plan is made

pub plan_made : (x : Circuit) (clocks : List NetId) (l : Layout) (pins : Pins) (p : Pulse) (values : List Tri) (origin : ℕ → Option ℕ) (shown : ℕ → Shown) (table : ℕ → Entry) (old mid new : Plan) →
    (was : IsPlan x clocks l pins old) → IsFilled x l table old mid → IsNoted clocks pins p (value_at values) Made mid new → (size : length values ≡ length x.ops) → (past : ((k : ℕ) → length x.ops ≤ k → p.ports k ≡ Unknown)) →
    (among : ((e : ℕ) → p.pulsed e ≡ true → Among clocks (length clocks) e)) → (origins : AreOrigins (logic_at x) (level_before p) origin) → (shows : IsShownOn (logic_at x) (edges_of p.rising p.pulsed) (λ net. true) shown) →
    (entries : ((c : ℕ) → c < length x.flops → entry_for (cell_at (map cell_of x.flops) c) p origin shown (value_at values) ≡ Some (table c))) → IsPlan x clocks l pins new
plan_made x clocks l pins p values origin shown table old mid new was f n size past among origins shows entries =
    let stepped : vec_capacity new.steps ≡ vec_capacity mid.steps = ap (λ (v : Vec Step). vec_capacity v) n.steps in
    let taken : vec_capacity new.takings ≡ vec_capacity mid.takings = ap (λ (v : Vec Taking). vec_capacity v) n.takings in
    let L : Vec Step → Type 0 = λ v. IsNeedList x f.marked (step_nets v.items) in
    let A : Vec Step → Type 0 = λ v. All (IsStep x) v.items in
    let T : List Move → List Taking → Type 0 = λ moves takings. AreTakings (cell_at (map cell_of x.flops)) table (length x.flops) (course l moves) takings in
    let kept : length x.ops ≤ vec_capacity old.steps = was.steps in
    let room : length x.flops ≤ vec_capacity old.takings = was.room in
    record {
      pulsed = ap length n.pulsed ∙ length-map clocks _;
      ports = ap length n.ports ∙ length-map pins.ports.items _;
      enables = ap length n.enables ∙ length-map pins.enables.items _;
      steps = omega (arith, stepped, f.listed, kept);
      room = omega (arith, taken, f.room, room);
      made = λ is. record {
        pulse = p;
        values = values;
        origin = origin;
        shown = shown;
        marked = f.marked;
        table = table;
        size = size;
        past = past;
        key = record { edge = n.rising; among = among; pulsed = n.pulsed; ports = n.ports; enables = n.enables };
        origins = origins;
        shows = shows;
        entries = entries;
        needed = f.needed;
        steps = subst A (sym n.steps) f.steps;
        list = subst L (sym n.steps) f.list;
        can = subst (λ (v : Vec Move). CanMove l v.items) (sym n.moves) f.can;
        takings = subst (λ (v : Vec Move). T v.items new.takings.items) (sym n.moves) (subst (T mid.moves.items) (sym (ap (λ (v : Vec Taking). v.items) n.takings)) f.takings);
      };
    }

pub plan_barred : (x : Circuit) (clocks : List NetId) (l : Layout) (pins : Pins) (old new : Plan) → IsPlan x clocks l pins old → new ≡ (record old { stage = Barred }) → IsPlan x clocks l pins new
plan_barred x clocks l pins old new was is =
    let P : Plan → Type 0 = λ plan. IsPlan x clocks l pins plan in
    subst P (sym is) (record { pulsed = was.pulsed; ports = was.ports; enables = was.enables; steps = was.steps; room = was.room; made = λ made. absurd cc })

pub plan_noted : (x : Circuit) (clocks : List NetId) (l : Layout) (pins : Pins) (p : Pulse) (values : ℕ → Tri) (old new : Plan) → IsPlan x clocks l pins old → IsNoted clocks pins p values Noted old new → IsPlan x clocks l pins new
plan_noted x clocks l pins p values old new was n =
    let stepped : vec_capacity new.steps ≡ vec_capacity old.steps = ap (λ (v : Vec Step). vec_capacity v) n.steps in
    let taken : vec_capacity new.takings ≡ vec_capacity old.takings = ap (λ (v : Vec Taking). vec_capacity v) n.takings in
    let kept : length x.ops ≤ vec_capacity old.steps = was.steps in
    let room : length x.flops ≤ vec_capacity old.takings = was.room in
    record {
      pulsed = ap length n.pulsed ∙ length-map clocks _;
      ports = ap length n.ports ∙ length-map pins.ports.items _;
      enables = ap length n.enables ∙ length-map pins.enables.items _;
      steps = omega (arith, stepped, kept);
      room = omega (arith, taken, room);
      made = λ is. (let none : Noted ≡ Made = sym n.stage ∙ is in absurd cc);
    }

-- ---- looks

pub look_read : (x : Circuit) (look : Look) (ports flops : ℕ → Tri) (values row : List Tri) → IsCircuit x → IsListed x look → length values ≡ length x.ops →
    ((k : ℕ) → Has (numbers_of (step_nets look.steps.items)) k → value_at values k ≡ value_given (strobe_from ports flops (value_at values)) (value_at values) k (meaning (op_at x.ops k))) →
    row ≡ map (λ net. value_at values net.0) look.nets.items → AreSeen (logic_at x) ports flops look.nets.items row
unfolding logic_at
look_read x look ports flops values row is listed len settled read =
    let R : List Tri → Type 0 = λ r. AreSeen (logic_at x) ports flops look.nets.items r in
    subst R (sym read) (look_of_marked x ports flops listed.marked values look.nets.items is len listed.list.closed (λ k up. settled k (listed.list.listed k up)) listed.all)
