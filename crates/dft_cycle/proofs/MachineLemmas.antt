-- What the machine's calls do, from what they do to its lists.
use Rattle.std.proofs.Common.{ℕ, zero, suc, Bool, not, true, false, List, [], ◌∷◌, ◌++◌, ◌≡◌, ◌<◌, ◌≤◌, ◌+◌, ◌==◌, ◌||◌, ◌&&◌, inl, inr, Option, None, Some, is_none, length, map, drop, drop-cons, add-one, ◌≢◌, refl, sym, ap, ◌∙◌, subst, get_or, slice_set, get_or-set_same, get_or-set_other, arith, ◌⊎◌, slice_get}
use Rattle.std.specs.Prelude.{if◌then◌else◌, replicate}
use Rattle.std.proofs.lemmas.Bool.Decides.{leb_tells, eqb_tells}
use Rattle.std.proofs.lemmas.Bool.{and_parts}
use Rattle.std.specs.Global.{Vec}
use Rattle.std.specs.Vec.{with_items}
use Rattle.std.proofs.lemmas.List.{get_or_past, drop_all}
use Rattle.dft_base.specs.declared.tri.Tri.{Tri}
use Rattle.dft_base.specs.declared.tri.Tri.TheVariants.{Unknown}
use Rattle.dft_base.proofs.BitLemmas.{or_later, or_false}
use Rattle.dft_cells.specs.FlipFlops.{tri_taken_by, tri_forced_by}
use Rattle.dft_netlist.specs.declared.ids.NetId.{NetId}
use Rattle.dft_netlist.specs.Drivers.{Source}
use Rattle.dft_behavior.specs.Logic.{Logic, Cell}
use Rattle.dft_behavior.specs.Settled.{TriSources, value_from, IsTriSettled}
use Rattle.dft_behavior.specs.Runs.{takes}
use Rattle.dft_logic.specs.declared.circuit.FlipFlop.{FlipFlop}
use Rattle.dft_abstract.specs.Cycle.{Pulse, Half, next_value, falls_after, changes, AreViews, after_pulse, IsLeast}
use Rattle.dft_cycle.specs.Machine.{Machine, value_at, is_one_of, ports_of, logic, acted, IsSet, at_strobe, IsStrobed, pulses, phase_from, pulse_from, IsPhase, IsPulsed}
use Rattle.dft_logic.specs.Circuit.{Circuit, logic_at, IsOneForce, cell_of, cell_at, flag_at, leaves_from, IsCircuit}
use Rattle.dft_takings.specs.Views.{IsReady, base_of}
use Rattle.dft_cycle.specs.Views.{AreFalling, Rises, rank_of, Among, AreNext}
use Rattle.std.proofs.lemmas.Option.{slice_get-get_or}
use Rattle.dft_base.proofs.ListLemmas.{refilled_items}
use Rattle.dft_registers.specs.declared.moves.Move.{Move}
use Rattle.dft_registers.specs.Cells.{Contents, course}
use Rattle.dft_takings.specs.declared.takings.Taking.{Taking}
use Rattle.dft_takings.specs.Takings.{ArePut}
use Rattle.dft_cycle.specs.declared.plans.Plan.{Plan}
use Rattle.dft_cycle.specs.Plans.{IsPassed, IsFound, IsFoundAt, LooseAreUnknown}
use Rattle.dft_logic.specs.Compiling.{ports_by}
use Rattle.dft_takings.specs.Needs.{AreSeen, IsStrobe}
use Rattle.dft_takings.specs.Takings.{is_loose_input, is_unforced, is_loose}
use Rattle.dft_takings.proofs.LookLemmas.{look_of_all}
use Rattle.dft_abstract.proofs.Halves.{falls_rest}
use Rattle.dft_abstract.proofs.Least.{none_changes}
use Rattle.dft_abstract.proofs.Views.{views_exist}
use Rattle.dft_takings.proofs.CircuitRanks.{circuit_ranked}
use Rattle.dft_takings.proofs.Strobes.{no_falls, strobe_holds, strobe_leaves}
use Rattle.dft_cycle.proofs.MachineRounds.{same_logic}
use Rattle.dft_logic.proofs.Writings.{cell_past, one_force}
use Rattle.dft_takings.proofs.TakingLemmas.{next_loose}

-- ---- the elements of a vector that was filled anew

pub clear_kept : (v : Vec Bool) (ws rs : List Bool) → length ws ≡ length rs → rs ≡ v.items → ((k : ℕ) → flag_at ws k ≡ false) → (k : ℕ) → flag_at (with_items v ws).items k ≡ false
clear_kept v ws rs a e clear k = ap (λ (l : List Bool). flag_at l k) (refilled_items v ws rs a e) ∙ clear k

pub ready_kept : (x : Circuit) (v : Vec Tri) (ws rs : List Tri) → length ws ≡ length rs → rs ≡ v.items → IsReady x ws → IsReady x (with_items v ws).items
ready_kept x v ws rs a e ready = subst (IsReady x) (sym (refilled_items v ws rs a e)) ready

-- ---- a strobe

-- sources that agree are the same
same_sources : (t u : TriSources) → ((k : ℕ) → t.ports k ≡ u.ports k) → ((e : ℕ) → t.clocks e ≡ u.clocks e) → ((c : ℕ) → t.flops c ≡ u.flops c) → ((c e : ℕ) (high : Bool) (source : Source) → t.lockups c e high source ≡ u.lockups c e high source) → t ≡ u
same_sources t u ports clocks flops lockups = λ i. record { ports = λ k. ports k i; clocks = λ e. clocks e i; flops = λ c. flops c i; lockups = λ c e high source. lockups c e high source i }

pub strobed : (m after : Machine) (x : Circuit) (ports cells poss held values : List Tri) (d : ℕ) → (compiled : logic m ≡ logic_at x) → after.netlist ≡ m.netlist → after.clocks ≡ m.clocks → after.inputs ≡ m.inputs → after.cells ≡ m.cells → ports ≡ m.inputs → cells ≡ m.cells →
    (settled : IsTriSettled (logic_at x) (leaves_from (base_of (map cell_of x.flops) (no_falls (value_at ports) (value_at cells)) poss held d) (value_at values)) (value_at values)) → (shown : after.shown ≡ values) → IsStrobed (logic m) m after
strobed m after x ports cells poss held values d compiled n k i c same old settled shown =
    let Q : Logic → Type 0 = λ l. IsTriSettled l (at_strobe m (value_at values)) (value_at values) in
    let R : List Tri → Type 0 = λ v. IsTriSettled (logic m) (at_strobe m (value_at v)) (value_at v) in
    let S : TriSources → Type 0 = λ t. IsTriSettled (logic_at x) t (value_at values) in
    let kept : (a : ℕ) → value_at cells a ≡ value_at m.cells a = λ a. ap (λ (l : List Tri). value_at l a) old in
    let from : leaves_from (base_of (map cell_of x.flops) (no_falls (value_at ports) (value_at cells)) poss held d) (value_at values) ≡ at_strobe m (value_at values) =
    same_sources _ (at_strobe m (value_at values)) (λ a. ap (λ (l : List Tri). value_at l a) same) (λ e. refl) kept
    (λ a e high source. strobe_holds (e == d) high (value_at cells a) (value_from (value_at values) source) (value_at held a) ∙ λ t. if high then kept a t else value_from (value_at values) source) in
    record { netlist = n; clocks = k; inputs = i; cells = c; settled = subst R (sym shown) (subst Q (sym compiled) (subst S from settled)) }

pub looked : (m : Machine) (x : Circuit) (ports cells poss held values row : List Tri) (d : ℕ) (nets : List NetId) → IsCircuit x → logic m ≡ logic_at x → ports ≡ m.inputs → cells ≡ m.cells →
    IsTriSettled (logic_at x) (leaves_from (base_of (map cell_of x.flops) (no_falls (value_at ports) (value_at cells)) poss held d) (value_at values)) (value_at values) →
    row ≡ map (λ net. value_at values net.0) nets → AreSeen (logic m) (value_at m.inputs) (value_at m.cells) nets row
looked m x ports cells poss held values row d nets is compiled same old settled read =
    let Q : Logic → Type 0 = λ l. AreSeen l (value_at m.inputs) (value_at m.cells) nets row in
    let R : List Tri → Type 0 = λ r. AreSeen (logic_at x) (value_at m.inputs) (value_at m.cells) nets r in
    let S : TriSources → Type 0 = λ t. IsTriSettled (logic_at x) t (value_at values) in
    let T : List Tri → List Tri → Type 0 = λ p c. IsStrobe (logic_at x) (value_at p) (value_at c) (value_at values) in
    let here : T ports cells = subst S (strobe_leaves (map cell_of x.flops) (value_at ports) (value_at cells) poss held d (value_at values)) settled in
    subst Q (sym compiled) (subst R (sym read) (look_of_all x (value_at m.inputs) (value_at m.cells) values nets is (subst (λ (l : List Tri). T l m.cells) same (subst (T ports) old here))))

-- ---- an input

pub set_done : (m after : Machine) (x : Circuit) (net : ℕ) (value : Tri) → logic m ≡ logic_at x → after.netlist ≡ m.netlist → after.clocks ≡ m.clocks → after.shown ≡ m.shown →
    after.inputs ≡ slice_set m.inputs net value → net < length m.inputs → length m.cells ≡ length x.flops → length after.cells ≡ length m.cells →
    ((c : ℕ) → c < length x.flops → value_at after.cells c ≡ acted (cell_at (map cell_of x.flops) c).forces net value (value_at m.cells c)) → IsSet (logic m) m net value after
unfolding logic_at
set_done m after x net value compiled n k s inputs live a b each =
    let V : (List Tri) → ℕ → Tri = value_at in
    record {
      netlist = n;
      clocks = k;
      input = ap (λ (l : List Tri). value_at l net) inputs ∙ get_or-set_same m.inputs net value Unknown live;
      others = λ other ne. ap (λ (l : List Tri). value_at l other) inputs ∙ get_or-set_other m.inputs net other value Unknown ne;
      one = λ c. subst (λ (l : Logic). IsOneForce (l.cell c).forces) (sym compiled) (one_force x.flops c);
      cells = λ c. (let P : Logic → Type 0 = λ l. value_at after.cells c ≡ acted (l.cell c).forces net value (value_at m.cells c) in
          subst P (sym compiled) (elim (leb_tells (length x.flops) c) [
            | inl out ↦ (let f : length after.cells ≤ c = omega (arith, out.1) in let g : length m.cells ≤ c = omega (arith, out.1) in
                get_or_past after.cells c Unknown f ∙ sym (get_or_past m.cells c Unknown g) ∙ sym (ap (λ (q : Cell). acted q.forces net value (value_at m.cells c)) (cell_past x.flops c out.1)))
            | inr live ↦ each c live.1
          ]));
      shown = s;
    }

-- what was read from other lists that are the same
pub acted_read : (flops : List FlipFlop) (cells os new ws : List Tri) (net : ℕ) (value : Tri) → os ≡ cells → new ≡ ws →
    ((c : ℕ) → c < length flops → value_at ws c ≡ acted (cell_at (map cell_of flops) c).forces net value (value_at os c)) →
    (c : ℕ) → c < length flops → value_at new c ≡ acted (cell_at (map cell_of flops) c).forces net value (value_at cells c)
acted_read flops cells os new ws net value o n each =
    let O : List Tri → Type 0 = λ l. (c : ℕ) → c < length flops → value_at new c ≡ acted (cell_at (map cell_of flops) c).forces net value (value_at l c) in
    let N : List Tri → Type 0 = λ l. (c : ℕ) → c < length flops → value_at l c ≡ acted (cell_at (map cell_of flops) c).forces net value (value_at os c) in
    subst O o (subst N (sym n) each)

-- whether a cell takes a value in a phase where these clocks are flagged
abbrev pub changed_by : (rising : Bool) → (flags : List Bool) → Cell → Bool
changed_by rising flags cell = flag_at flags cell.domain && takes rising cell.falling

pub taken_read : (rising : Bool) (flops fs : List FlipFlop) (marks bs : List Bool) (next xs cells os new ws : List Tri) → fs ≡ flops → bs ≡ marks → xs ≡ next → os ≡ cells → new ≡ ws →
    ((c : ℕ) → c < length fs → value_at ws c ≡ (if changed_by rising bs (cell_at (map cell_of fs) c) then value_at xs c else value_at os c)) →
    (c : ℕ) → c < length flops → value_at new c ≡ (if changed_by rising marks (cell_at (map cell_of flops) c) then value_at next c else value_at cells c)
taken_read rising flops fs marks bs next xs cells os new ws f b x o n each =
    let F : List FlipFlop → Type 0 = λ l. (c : ℕ) → c < length l → value_at new c ≡ (if changed_by rising marks (cell_at (map cell_of l) c) then value_at next c else value_at cells c) in
    let B : List Bool → Type 0 = λ l. (c : ℕ) → c < length fs → value_at new c ≡ (if changed_by rising l (cell_at (map cell_of fs) c) then value_at next c else value_at cells c) in
    let X : List Tri → Type 0 = λ l. (c : ℕ) → c < length fs → value_at new c ≡ (if changed_by rising bs (cell_at (map cell_of fs) c) then value_at l c else value_at cells c) in
    let O : List Tri → Type 0 = λ l. (c : ℕ) → c < length fs → value_at new c ≡ (if changed_by rising bs (cell_at (map cell_of fs) c) then value_at xs c else value_at l c) in
    let N : List Tri → Type 0 = λ l. (c : ℕ) → c < length fs → value_at l c ≡ (if changed_by rising bs (cell_at (map cell_of fs) c) then value_at xs c else value_at os c) in
    subst F f (subst B b (subst X x (subst O o (subst N (sym n) each))))

-- ---- a phase of a pulse

after_case : (l : Logic) (p : Pulse) (view : ℕ → ℕ → Tri) (c : ℕ) (next cell : Tri) (up : Bool) → changes l p c ≡ up → (changes l p c ≡ true → next ≡ next_value l p view c) → p.old c ≡ cell →
    (if up then next else cell) ≡ (if up then next_value l p view c else p.old c)
after_case l p view c next cell true e is old = is e
after_case l p view c next cell false e is old = sym old

-- what a phase leaves, by its half
record HasHalf (l : Logic) (p : Pulse) (new : ℕ → Tri) : Type 0 where
  half : Half
  least : IsLeast l p half.poss half.view
  cells : (c : ℕ) → new c ≡ after_pulse l p half.view c

-- the same of the machine
half_of : (m : Machine) (x : Circuit) (rising : Bool) (pulsed : List Bool) (p : Pulse) (new : ℕ → Tri) → logic m ≡ logic_at x → p ≡ phase_from m rising pulsed → HasHalf (logic_at x) p new → HasHalf (logic m) (phase_from m rising pulsed) new
half_of m x rising pulsed p new compiled same has =
    subst (λ (l : Logic). HasHalf l (phase_from m rising pulsed) new) (sym compiled) (subst (λ (q : Pulse). HasHalf (logic_at x) q new) same has)

-- a machine has gone through a phase where the cells that change have their next values by the least views, and all else stays
pub phase_done : (m after : Machine) (x : Circuit) (rising : Bool) (pulsed : List Bool) (p : Pulse) (poss next : List Tri) → (is : IsCircuit x) → (compiled : logic m ≡ logic_at x) → after.netlist ≡ m.netlist → after.clocks ≡ m.clocks → after.inputs ≡ m.inputs → after.shown ≡ m.shown →
    (edge : p.rising ≡ rising) → (ports : ((k : ℕ) → p.ports k ≡ value_at m.inputs k)) → (ups : ((e : ℕ) → p.pulsed e ≡ pulses m.clocks pulsed e)) → (old : ((c : ℕ) → p.old c ≡ value_at m.cells c)) →
    length m.cells ≡ length x.flops → length after.cells ≡ length m.cells → length next ≡ length x.flops →
    (least : ((view : ℕ → ℕ → Tri) → AreViews (logic_at x) p (value_at poss) view → IsLeast (logic_at x) p (value_at poss) view)) →
    (nexts : ((view : ℕ → ℕ → Tri) → AreViews (logic_at x) p (value_at poss) view → AreNext (logic_at x) p view poss next)) →
    (each : ((c : ℕ) → c < length x.flops → value_at after.cells c ≡ (if changes (logic_at x) p c then value_at next c else value_at m.cells c))) → IsPhase (logic m) m rising pulsed after
phase_done m after x rising pulsed p poss next is compiled n k i s edge ports ups old a b d least nexts each =
    let found = views_exist (logic_at x) (rank_of x) p (value_at poss) (circuit_ranked x is) in
    let same : p ≡ phase_from m rising pulsed = λ t. record { rising = edge t; ports = λ q. ports q t; pulsed = λ e. ups e t; old = λ c. old c t } in
    let cells : (c : ℕ) → value_at after.cells c ≡ after_pulse (logic_at x) p found.0 c = λ c.
    (let taken : value_at after.cells c ≡ (if changes (logic_at x) p c then value_at next c else value_at m.cells c) =
    elim (leb_tells (length x.flops) c) [
      | inl out ↦ (let f : length after.cells ≤ c = omega (arith, out.1) in let g : length m.cells ≤ c = omega (arith, out.1) in let h : length next ≤ c = omega (arith, out.1) in
          past (value_at after.cells c) (value_at next c) (value_at m.cells c) (changes (logic_at x) p c) (get_or_past after.cells c Unknown f) (get_or_past next c Unknown h) (get_or_past m.cells c Unknown g))
      | inr live ↦ each c live.1
    ] in
    taken ∙ after_case (logic_at x) p found.0 c (value_at next c) (value_at m.cells c) (changes (logic_at x) p c) refl (λ up. (nexts found.0 found.1 c up).0) (old c)) in
    let r : HasHalf (logic m) (phase_from m rising pulsed) (value_at after.cells) =
    half_of m x rising pulsed p (value_at after.cells) compiled same (record { half = record { poss = value_at poss; view = found.0 }; least = least found.0 found.1; cells = cells }) in
    record { netlist = n; clocks = k; inputs = i; shown = s; half = r.half; least = r.least; cells = r.cells } where
      past : (u v w : Tri) (up : Bool) → u ≡ Unknown → v ≡ Unknown → w ≡ Unknown → u ≡ (if up then v else w)
      past u v w true e f g = e ∙ sym f
      past u v w false e f g = e ∙ sym g

-- where every cell takes its bit at a rise nothing changes in the falls
pub phase_rests : (m : Machine) (x : Circuit) (pulsed : List Bool) → IsCircuit x → logic m ≡ logic_at x → ((c : ℕ) → changes (logic_at x) (phase_from m false pulsed) c ≡ false) → IsPhase (logic m) m false pulsed m
phase_rests m x pulsed is compiled still =
    let l : Logic = logic_at x in
    let q : Pulse = phase_from m false pulsed in
    let none = none_changes l (rank_of x) q (circuit_ranked x is) still in
    let r : HasHalf (logic m) q (value_at m.cells) =
    half_of m x false pulsed q (value_at m.cells) compiled refl (record { half = record { poss = q.old; view = none.0 }; least = none.1.0; cells = λ c. sym (none.1.1 c) }) in
    record { netlist = refl; clocks = refl; inputs = refl; shown = refl; half = r.half; least = r.least; cells = r.cells }

-- the rises and the falls are a pulse
pub pulsed_of : (m mid after : Machine) (pulsed : List Bool) → IsPhase (logic m) m true pulsed mid → IsPhase (logic mid) mid false pulsed after → IsPulsed (logic m) m pulsed after
pulsed_of m mid after pulsed rise fall =
    let l : Logic = logic m in
    let one : logic mid ≡ l = same_logic m mid rise.netlist rise.clocks in
    let q : phase_from mid false pulsed ≡ falls_after l (pulse_from m pulsed) rise.half.view = λ t. record { rising = false; ports = value_at (rise.inputs t); pulsed = pulses (rise.clocks t) pulsed; old = λ c. rise.cells c t } in
    let P : Logic → Pulse → Type 0 = λ k u. IsLeast k u fall.half.poss fall.half.view × ((c : ℕ) → value_at after.cells c ≡ after_pulse k u fall.half.view c) in
    let all : P l (falls_after l (pulse_from m pulsed) rise.half.view) = subst (P l) q (subst (λ (k : Logic). P k (phase_from mid false pulsed)) one (fall.least, fall.cells)) in
    record {
      netlist = fall.netlist ∙ rise.netlist;
      clocks = fall.clocks ∙ rise.clocks;
      inputs = fall.inputs ∙ rise.inputs;
      shown = fall.shown ∙ rise.shown;
      halves = record { rise = rise.half; fall = fall.half };
      rise = rise.least;
      fall = all.0;
      cells = all.1;
    }

-- ---- the clocks that pulse

-- where the first of these pulses another, one of the rest pulses
missed : (b t r : Bool) → t ≡ false → ((b && t) || r) ≡ true → r ≡ true
missed true false r h u = u
missed false false r h u = u
missed true true r h u = absurd cc
missed false true r h u = absurd cc

-- an entry that is 1 is one of the clocks
pub pulses_among : (clocks : List NetId) (pulsed : List Bool) (e : ℕ) → pulses clocks pulsed e ≡ true → Among clocks (length clocks) e
pulses_among [] pulsed e up = absurd cc
pulses_among (clock ∷ clocks) [] e up = absurd cc
pulses_among (clock ∷ clocks) (b ∷ pulsed) e up = elim (eqb_tells clock.0 e) [
  | inl q ↦ record { place = 0; before = omega arith; here = q.1 }
  | inr q ↦ (let rest = pulses_among clocks pulsed e (missed b (clock.0 == e) (pulses clocks pulsed e) q.0 up) in
      record { place = suc rest.place; before = (let less = rest.before in omega arith); here = rest.here })
]

pulses_front : (clocks : List NetId) (pulsed : List Bool) (j e : ℕ) → j < length clocks → j < length pulsed →
    pulses (drop j clocks) (drop j pulsed) e ≡ (get_or pulsed j false && ((get_or clocks j (record { 0 = 0 })).0 == e)) || pulses (drop (j + 1) clocks) (drop (j + 1) pulsed) e
pulses_front clocks pulsed j e a b = rw (add-one) (λ i. pulses (drop-cons clocks j (record { 0 = 0 }) a i) (drop-cons pulsed j false b i) e)

up_hit : (f r b t : Bool) → b ≡ true → t ≡ true → (true || r) ≡ (f || ((b && t) || r))
up_hit true r b t p q = refl
up_hit false r true true p q = refl
up_hit false r false t p q = absurd cc
up_hit false r true false p q = absurd cc

up_miss : (f r b t : Bool) → t ≡ false → (f || r) ≡ (f || ((b && t) || r))
up_miss f r true false q = refl
up_miss f r false false q = refl
up_miss f r b true q = absurd cc

down : (f r b t : Bool) → b ≡ false → (f || r) ≡ (f || ((b && t) || r))
down f r false t p = refl
down f r true t p = absurd cc

pub mark_up : (clocks : List NetId) (pulsed flags : List Bool) (j e : ℕ) (all : Bool) → j < length clocks → j < length pulsed → get_or pulsed j false ≡ true → (get_or clocks j (record { 0 = 0 })).0 < length flags →
    (flag_at flags e || pulses (drop j clocks) (drop j pulsed) e) ≡ all → (flag_at (slice_set flags (get_or clocks j (record { 0 = 0 })).0 true) e || pulses (drop (j + 1) clocks) (drop (j + 1) pulsed) e) ≡ all
mark_up clocks pulsed flags j e all a b up live before =
    let at : ℕ = (get_or clocks j (record { 0 = 0 })).0 in
    let rest : Bool = pulses (drop (j + 1) clocks) (drop (j + 1) pulsed) e in
    let whole : (flag_at flags e || ((get_or pulsed j false && (at == e)) || rest)) ≡ all = sym (ap (λ (x : Bool). flag_at flags e || x) (pulses_front clocks pulsed j e a b)) ∙ before in
    elim (eqb_tells at e) [
      | inl q ↦ (let F : ℕ → Bool = λ n. flag_at (slice_set flags at true) n in
          ap (λ (x : Bool). x || rest) (sym (ap F q.1) ∙ get_or-set_same flags at true false live) ∙ up_hit (flag_at flags e) rest (get_or pulsed j false) (at == e) up q.0 ∙ whole)
      | inr q ↦ (let ne : e ≢ at = λ p. q.1 (sym p) in
          ap (λ (x : Bool). x || rest) (get_or-set_other flags at e true false ne) ∙ up_miss (flag_at flags e) rest (get_or pulsed j false) (at == e) q.0 ∙ whole)
    ]

pub mark_down : (clocks : List NetId) (pulsed flags : List Bool) (j e : ℕ) (all : Bool) → j < length clocks → j < length pulsed → get_or pulsed j false ≡ false →
    (flag_at flags e || pulses (drop j clocks) (drop j pulsed) e) ≡ all → (flag_at flags e || pulses (drop (j + 1) clocks) (drop (j + 1) pulsed) e) ≡ all
mark_down clocks pulsed flags j e all a b up before =
    let at : ℕ = (get_or clocks j (record { 0 = 0 })).0 in
    down (flag_at flags e) (pulses (drop (j + 1) clocks) (drop (j + 1) pulsed) e) (get_or pulsed j false) (at == e) up
    ∙ sym (ap (λ (x : Bool). flag_at flags e || x) (pulses_front clocks pulsed j e a b)) ∙ before

-- a clock that pulses is a net
pub pulses_live : (clocks : List NetId) (pulsed : List Bool) (e count : ℕ) → ((place : ℕ) (clock : NetId) → slice_get clocks place ≡ Some clock → clock.0 < count) → pulses clocks pulsed e ≡ true → e < count
pulses_live clocks pulsed e count live up =
    let among = pulses_among clocks pulsed e up in
    subst (λ (n : ℕ). n < count) among.here (live among.place _ (slice_get-get_or clocks among.place (record { 0 = 0 }) among.before))

-- what holds of a clock whose entry is 1, and of no other
pub pulses_by : (P : ℕ → Type 0) (clocks : List NetId) (pulsed : List Bool) (e : ℕ) → pulses clocks pulsed e ≡ true → ((place : ℕ) → place < length clocks → flag_at pulsed place ≡ true → P (get_or clocks place (record { 0 = 0 })).0) → P e
pulses_by P [] pulsed e up each = absurd cc
pulses_by P (clock ∷ clocks) [] e up each = absurd cc
pulses_by P (clock ∷ clocks) (b ∷ pulsed) e up each = elim (eqb_tells clock.0 e) [
  | inl q ↦ elim (hit b (clock.0 == e) (pulses clocks pulsed e) q.0 up) [
    | inl first ↦ subst P q.1 (each 0 (omega arith) first)
    | inr later ↦ pulses_by P clocks pulsed e later (λ place less. each (suc place) (omega (arith, less)))
  ]
  | inr q ↦ pulses_by P clocks pulsed e (missed b (clock.0 == e) (pulses clocks pulsed e) q.0 up) (λ place less. each (suc place) (omega (arith, less)))
] where
  hit : (b t r : Bool) → t ≡ true → ((b && t) || r) ≡ true → (b ≡ true) ⊎ (r ≡ true)
  hit true true r h u = inl refl
  hit false true r h u = inr u
  hit true false r h u = absurd cc
  hit false false r h u = absurd cc

-- where no entry of the clocks that pulse may fall, their domains take their bits at rises
pub pulsed_rise : (x : Circuit) (clocks : List NetId) (falls pulsed : List Bool) (e : ℕ) → AreFalling x clocks falls → ((place : ℕ) → flag_at pulsed place ≡ true → flag_at falls place ≡ false) → pulses clocks pulsed e ≡ true → Rises x e
pulsed_rise x clocks falls pulsed e a off up = pulses_by (Rises x) clocks pulsed e up (λ place less at. a.rest place less (off place at))

-- what holds of each entry, with one more
pub each_more : (P : ℕ → Bool → Type 0) (flags : List Bool) (b : Bool) → P (length flags) b → ((k : ℕ) → k < length flags → P k (flag_at flags k)) → (k : ℕ) → k < length (flags ++ b ∷ []) → P k (flag_at (flags ++ b ∷ []) k)
each_more P [] b here each zero less = here
each_more P [] b here each (suc k) less = absurd (omega (arith, less))
each_more P (f ∷ flags) b here each zero less = each 0 (omega arith)
each_more P (f ∷ flags) b here each (suc k) less = each_more (λ j. P (suc j)) flags b here (λ j le. each (suc j) (omega (arith, le))) k (omega (arith, less))

-- where the cells of all domains that pulse take their bits at rises, none changes in the falls
pub domains_rest : (x : Circuit) (p : Pulse) → IsCircuit x → p.rising ≡ false → ((e : ℕ) → p.pulsed e ≡ true → e < length x.ops) → ((e : ℕ) → p.pulsed e ≡ true → Rises x e) → (c : ℕ) → changes (logic_at x) p c ≡ false
unfolding logic_at
domains_rest x p is down live rise c = by (p.pulsed (cell_at (map cell_of x.flops) c).domain) refl where
  by : (b : Bool) → p.pulsed (cell_at (map cell_of x.flops) c).domain ≡ b → changes (logic_at x) p c ≡ false
  by false e = ap (λ (b : Bool). b && takes p.rising (cell_at (map cell_of x.flops) c).falling) e
  by true e = falls_rest (logic_at x) p c (elim (leb_tells (length x.flops) c) [
    | inl out ↦ ap (λ (cell : Cell). cell.falling) (cell_past x.flops c out.1)
    | inr less ↦ rise (cell_at (map cell_of x.flops) c).domain e c (is.tables.cells.each (cell_at (map cell_of x.flops) c).domain c less.1 (live (cell_at (map cell_of x.flops) c).domain e) (inl refl))
  ]) down

-- ---- the start

pub unknown_all : (count e : ℕ) → value_at (replicate count Unknown) e ≡ Unknown
unknown_all zero e = refl
unknown_all (suc count) zero = refl
unknown_all (suc count) (suc e) = unknown_all count e

one_front : (clocks : List NetId) (j e : ℕ) → j < length clocks → is_one_of (drop j clocks) e ≡ ((get_or clocks j (record { 0 = 0 })).0 == e) || is_one_of (drop (j + 1) clocks) e
one_front clocks j e a = rw (add-one) (λ i. is_one_of (drop-cons clocks j (record { 0 = 0 }) a i) e)

one_hit : (f r t : Bool) → t ≡ true → (true || r) ≡ (f || (t || r))
one_hit true r t q = refl
one_hit false r true q = refl
one_hit false r false q = absurd cc

one_miss : (f r t : Bool) → t ≡ false → (f || r) ≡ (f || (t || r))
one_miss f r false q = refl
one_miss f r true q = absurd cc

pub flag_more : (clocks : List NetId) (flags : List Bool) (j e : ℕ) (all : Bool) → j < length clocks → (get_or clocks j (record { 0 = 0 })).0 < length flags → (flag_at flags e || is_one_of (drop j clocks) e) ≡ all →
    (flag_at (slice_set flags (get_or clocks j (record { 0 = 0 })).0 true) e || is_one_of (drop (j + 1) clocks) e) ≡ all
flag_more clocks flags j e all a live before =
    let at : ℕ = (get_or clocks j (record { 0 = 0 })).0 in
    let rest : Bool = is_one_of (drop (j + 1) clocks) e in
    let whole : (flag_at flags e || ((at == e) || rest)) ≡ all = sym (ap (λ (x : Bool). flag_at flags e || x) (one_front clocks j e a)) ∙ before in
    elim (eqb_tells at e) [
      | inl q ↦ (let F : ℕ → Bool = λ n. flag_at (slice_set flags at true) n in
          ap (λ (x : Bool). x || rest) (sym (ap F q.1) ∙ get_or-set_same flags at true false live) ∙ one_hit (flag_at flags e) rest (at == e) q.0 ∙ whole)
      | inr q ↦ (let ne : e ≢ at = λ p. q.1 (sym p) in
          ap (λ (x : Bool). x || rest) (get_or-set_other flags at e true false ne) ∙ one_miss (flag_at flags e) rest (at == e) q.0 ∙ whole)
    ]

pub flag_end : (clocks : List NetId) (flags : List Bool) (j e : ℕ) (all : Bool) → length clocks ≤ j → (flag_at flags e || is_one_of (drop j clocks) e) ≡ all → flag_at flags e ≡ all
flag_end clocks flags j e all past before =
    sym (or_false (flag_at flags e)) ∙ sym (ap (λ (l : List NetId). flag_at flags e || is_one_of l e) (drop_all j clocks past)) ∙ before

pub one_among : (clocks : List NetId) (e : ℕ) → is_one_of clocks e ≡ true → Among clocks (length clocks) e
one_among [] e h = absurd cc
one_among (clock ∷ clocks) e h = elim (eqb_tells clock.0 e) [
  | inl q ↦ record { place = 0; before = omega arith; here = q.1 }
  | inr q ↦ (let rest = one_among clocks e (or_later (clock.0 == e) (is_one_of clocks e) q.0 h) in
      record { place = suc rest.place; before = (let less = rest.before in omega arith); here = rest.here })
]

-- the flagged nets are the clocks
pub same_ports : (flags : List Bool) (clocks : List NetId) → ((e : ℕ) → flag_at flags e ≡ is_one_of clocks e) → ports_by flags ≡ ports_of clocks
same_ports flags clocks same = λ i. record { is_clock = λ e. same e i; is_reset = λ e. not (same e i) }

-- ---- no net but clocks is flagged

pulses_one : (clocks : List NetId) (pulsed : List Bool) (e : ℕ) → pulses clocks pulsed e ≡ true → is_one_of clocks e ≡ true
pulses_one [] pulsed e up = absurd cc
pulses_one (clock ∷ clocks) [] e up = absurd cc
pulses_one (clock ∷ clocks) (b ∷ pulsed) e up = go b (clock.0 == e) (pulses clocks pulsed e) (is_one_of clocks e) up (pulses_one clocks pulsed e) where
  go : (b t r s : Bool) → ((b && t) || r) ≡ true → (r ≡ true → s ≡ true) → (t || s) ≡ true
  go b true r s up rest = refl
  go true false r s up rest = rest up
  go false false r s up rest = rest up

pub flags_one : (clocks : List NetId) (pulsed : List Bool) (v : Vec Bool) (ws : List Bool) (cs : List NetId) (rs : List Bool) → length ws ≡ length rs → rs ≡ v.items → cs ≡ clocks →
    ((e : ℕ) → flag_at ws e ≡ pulses cs pulsed e) → (e : ℕ) → flag_at (with_items v ws).items e ≡ true → is_one_of clocks e ≡ true
flags_one clocks pulsed v ws cs rs a b named marks e up =
    pulses_one clocks pulsed e (sym (ap (λ (l : List NetId). pulses l pulsed e) named) ∙ sym (marks e) ∙ sym (ap (λ (l : List Bool). flag_at l e) (refilled_items v ws rs a b)) ∙ up)

-- flags are lowered one after another
pub lower_more : (nets : List NetId) (flags : List Bool) (j : ℕ) (d : NetId) → j < length nets → (get_or nets j d).0 < length flags → ((e : ℕ) → flag_at flags e ≡ true → is_one_of (drop j nets) e ≡ true) →
    (e : ℕ) → flag_at (slice_set flags (get_or nets j d).0 false) e ≡ true → is_one_of (drop (j + 1) nets) e ≡ true
lower_more nets flags j d less live old e up =
    let net : NetId = get_or nets j d in
    let front : drop j nets ≡ net ∷ drop (j + 1) nets = rw (add-one) (drop-cons nets j d less) in
    elim (eqb_tells net.0 e) [
      | inl q ↦ (let down : flag_at (slice_set flags net.0 false) e ≡ false = ap (λ (k : ℕ). flag_at (slice_set flags net.0 false) k) (sym q.1) ∙ get_or-set_same flags net.0 false false live in
          let none : true ≡ false = sym up ∙ down in absurd cc)
      | inr q ↦ (let ne : e ≢ net.0 = λ is. q.1 (sym is) in
          or_later (net.0 == e) (is_one_of (drop (j + 1) nets) e) q.0
          (sym (ap (λ (l : List NetId). is_one_of l e) front) ∙ old e (sym (get_or-set_other flags net.0 e false false ne) ∙ up)))
    ]

pub lower_all : (nets : List NetId) (flags : List Bool) (j e : ℕ) → length nets ≤ j → ((e : ℕ) → flag_at flags e ≡ true → is_one_of (drop j nets) e ≡ true) → flag_at flags e ≡ false
lower_all nets flags j e past old = go (flag_at flags e) (λ up. sym (ap (λ (l : List NetId). is_one_of l e) (drop_all j nets past)) ∙ old e up) where
  go : (b : Bool) → (b ≡ true → false ≡ true) → b ≡ false
  go true f = absurd (let none = f refl in cc)
  go false f = refl

-- ---- a pulse by a plan

after_past : (x : Circuit) (p : Pulse) (view : ℕ → ℕ → Tri) (c : ℕ) → length x.flops ≤ c → p.old c ≡ Unknown → after_pulse (logic_at x) p view c ≡ Unknown
unfolding logic_at
after_past x p view c out old =
    let F : Cell → Tri = λ cell. if p.pulsed cell.domain && takes p.rising cell.falling then tri_forced_by cell.forces p.ports (tri_taken_by cell.takes (p.old c) (value_from (view cell.domain))) else p.old c in
    ap F (cell_past x.flops c out) ∙ go (p.pulsed 0 && takes p.rising false) where
      go : (up : Bool) → (if up then Unknown else p.old c) ≡ Unknown
      go true = refl
      go false = old

-- a machine whose cells are what a plan passes to has gone through the phase
pub phase_passed : (m after : Machine) (x : Circuit) (rising : Bool) (pulsed : List Bool) (p : Pulse) (new : List Tri) → (compiled : logic m ≡ logic_at x) → after.netlist ≡ m.netlist → after.clocks ≡ m.clocks → after.inputs ≡ m.inputs → after.shown ≡ m.shown →
    (cells : after.cells ≡ new) → (edge : p.rising ≡ rising) → (ports : ((k : ℕ) → p.ports k ≡ value_at m.inputs k)) → (ups : ((e : ℕ) → p.pulsed e ≡ pulses m.clocks pulsed e)) → (old : ((c : ℕ) → p.old c ≡ value_at m.cells c)) →
    length m.cells ≡ length x.flops → length new ≡ length m.cells → (passed : IsPassed x p new) → IsPhase (logic m) m rising pulsed after
phase_passed m after x rising pulsed p new compiled n k i s cells edge ports ups old a b passed =
    let same : p ≡ phase_from m rising pulsed = λ t. record { rising = edge t; ports = λ q. ports q t; pulsed = λ e. ups e t; old = λ c. old c t } in
    let each : (c : ℕ) → value_at after.cells c ≡ after_pulse (logic_at x) p passed.view c = λ c.
    ap (λ (l : List Tri). value_at l c) cells
    ∙ elim (leb_tells (length x.flops) c) [
      | inl out ↦ (let f : length new ≤ c = omega (arith, out.1) in let g : length m.cells ≤ c = omega (arith, out.1) in
          get_or_past new c Unknown f ∙ sym (after_past x p passed.view c out.1 (old c ∙ get_or_past m.cells c Unknown g)))
      | inr live ↦ passed.each c live.1
    ] in
    let r : HasHalf (logic m) (phase_from m rising pulsed) (value_at after.cells) =
    half_of m x rising pulsed p (value_at after.cells) compiled same (record { half = record { poss = passed.poss; view = passed.view }; least = passed.least; cells = each }) in
    record { netlist = n; clocks = k; inputs = i; shown = s; half = r.half; least = r.least; cells = r.cells }

-- the plan that was found, and what was found for it
pub plan_found : (x : Circuit) (p : Pulse) (old : Contents Tri) (plans : List Plan) (place : ℕ) (plan d : Plan) (row : List Tri) → place < length plans → plan ≡ get_or plans place d → IsFoundAt x p old plans place row → IsFound x p old plan row
plan_found x p old plans place plan d row less is found = found plan (slice_get-get_or plans place d less ∙ ap Some (sym is))

-- where it is put the phase is passed
pub put_passed : (x : Circuit) (p : Pulse) (old : Contents Tri) (plan : Plan) (row rs new : List Tri) (takings : List Taking) (moves : List Move) → IsFound x p old plan row → takings ≡ plan.takings.items → rs ≡ row → moves ≡ plan.moves.items →
    ArePut takings (length takings) (value_at rs) (course old.layout moves) old.values new → IsPassed x p new
put_passed x p old plan row rs new takings moves found t r m put =
    found.passed new
    (subst (λ (l : List Move). ArePut plan.takings.items (length plan.takings.items) (value_at row) (course old.layout l) old.values new) m
    (subst (λ (l : List Tri). ArePut plan.takings.items (length plan.takings.items) (value_at l) (course old.layout moves) old.values new) r
    (subst (λ (l : List Taking). ArePut l (length l) (value_at rs) (course old.layout moves) old.values new) t put)))

-- ---- loose flip-flops stay Unknown

pub loose_kept : (x : Circuit) (v : Vec Tri) (ws rs : List Tri) → length ws ≡ length rs → rs ≡ v.items → LooseAreUnknown x (value_at ws) → LooseAreUnknown x (value_at (with_items v ws).items)
loose_kept x v ws rs a e loose = subst (λ (l : List Tri). LooseAreUnknown x (value_at l)) (sym (refilled_items v ws rs a e)) loose

-- past the end there is no value
loose_within : (x : Circuit) (new : List Tri) → length new ≡ length x.flops → ((c : ℕ) → c < length x.flops → is_loose (cell_at (map cell_of x.flops) c) ≡ true → value_at new c ≡ Unknown) →
    LooseAreUnknown x (value_at new)
loose_within x new size each c is = elim (leb_tells (length x.flops) c) [
  | inl out ↦ (let far : length new ≤ c = omega (arith, out.1) in get_or_past new c Unknown far)
  | inr live ↦ each c live.1 is
]

acted_loose : (cell : Cell) (net : ℕ) (value bit : Tri) → is_loose cell ≡ true → acted cell.forces net value bit ≡ bit
acted_loose cell net value bit is =
    go cell.forces.clear cell.forces.preset (and_parts (is_none cell.takes.scan) (is_unforced cell.forces) (and_parts (is_loose_input cell.takes.input) (is_none cell.takes.scan && is_unforced cell.forces) is).1).1 where
      go : (clear preset : Option ℕ) → (is_none clear && is_none preset) ≡ true → acted (record { clear = clear; preset = preset }) net value bit ≡ bit
      go None None is = refl
      go None (Some port) is = absurd cc
      go (Some port) preset is = absurd cc

-- an input that gets a value
pub set_loose : (x : Circuit) (net : ℕ) (value : Tri) (old new : List Tri) → length new ≡ length x.flops → LooseAreUnknown x (value_at old) →
    ((c : ℕ) → c < length x.flops → value_at new c ≡ acted (cell_at (map cell_of x.flops) c).forces net value (value_at old c)) → LooseAreUnknown x (value_at new)
set_loose x net value old new size loose each =
    loose_within x new size (λ c live is. each c live ∙ acted_loose (cell_at (map cell_of x.flops) c) net value (value_at old c) is ∙ loose c is)

either_unknown : (up : Bool) (next old : Tri) → (up ≡ true → next ≡ Unknown) → old ≡ Unknown → (if up then next else old) ≡ Unknown
either_unknown true next old a b = a refl
either_unknown false next old a b = b

-- a pulse by a plan, or none
pub passed_loose : (x : Circuit) (p : Pulse) (old new : List Tri) (taken : Bool) → length new ≡ length x.flops → ((c : ℕ) → p.old c ≡ value_at old c) → LooseAreUnknown x (value_at old) →
    (taken ≡ true → IsPassed x p new) → (taken ≡ false → new ≡ old) → LooseAreUnknown x (value_at new)
unfolding logic_at
passed_loose x p old new false size olds loose passed same = λ c is. ap (λ (l : List Tri). value_at l c) (same refl) ∙ loose c is
passed_loose x p old new true size olds loose passed same =
    let r = passed refl in
    let cells : ℕ → Cell = cell_at (map cell_of x.flops) in
    loose_within x new size
    (λ c live is. r.each c live ∙ either_unknown (changes (logic_at x) p c) _ (p.old c) (λ up. next_loose (cells c) p.ports (r.view (cells c).domain) is) (olds c ∙ loose c is))

-- a pulse by the views
pub pulsed_loose : (x : Circuit) (p : Pulse) (poss next old new : List Tri) → IsCircuit x → length new ≡ length x.flops → LooseAreUnknown x (value_at old) →
    ((view : ℕ → ℕ → Tri) → AreViews (logic_at x) p (value_at poss) view → AreNext (logic_at x) p view poss next) →
    ((c : ℕ) → c < length x.flops → value_at new c ≡ (if changes (logic_at x) p c then value_at next c else value_at old c)) → LooseAreUnknown x (value_at new)
unfolding logic_at
pulsed_loose x p poss next old new is size loose nexts each =
    let cells : ℕ → Cell = cell_at (map cell_of x.flops) in
    let found = views_exist (logic_at x) (rank_of x) p (value_at poss) (circuit_ranked x is) in
    loose_within x new size
    (λ c live l. each c live
    ∙ either_unknown (changes (logic_at x) p c) (value_at next c) (value_at old c) (λ up. (nexts found.0 found.1 c up).0 ∙ next_loose (cells c) p.ports (found.0 (cells c).domain) l) (loose c l))
