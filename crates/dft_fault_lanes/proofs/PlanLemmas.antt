-- From what a plan is to what it gives.
use Rattle.std.proofs.Common.{ℕ, zero, suc, Bool, true, false, ◌≡◌, ◌<◌, ◌≤◌, ◌+◌, ◌++◌, ◌⊎◌, inl, inr, List, [], ◌∷◌, length, map, drop, get_or, refl, sym, ap, subst, arith, ◌∙◌, true≢false, Option, None}
use Rattle.std.specs.Prelude.{◌==◌, ◌&&◌, nat_le, nat_lt, if◌then◌else◌}
use Rattle.std.proofs.lemmas.List.{get_or_past, drop_all}
use Rattle.std.proofs.lemmas.Bool.{cases_Bool, cases_eq, or_left}
use Rattle.std.proofs.lemmas.Bool.Decides.{eqb_tells, leb_tells}
use Rattle.dft_base.specs.declared.tri.Tri.{Tri}
use Rattle.dft_base.specs.declared.tri.Tri.TheVariants.{One, Unknown}
use Rattle.dft_base.proofs.SumLemmas.{and_false}
use Rattle.dft_cells.specs.FlipFlops.{Forces, tri_forced_by}
use Rattle.dft_lanes.specs.declared.wide.Wide.{Wide}
use Rattle.dft_registers.specs.Layout.{Layout, place_at}
use Rattle.dft_netlist.specs.declared.ids.NetId.{NetId}
use Rattle.dft_netlist.specs.Drivers.{nets_of}
use Rattle.dft_behavior.specs.Logic.{Cell}
use Rattle.dft_netlist.specs.Orders.{Has, numbers_of}
use Rattle.dft_behavior.specs.Settled.{value_from}
use Rattle.dft_patterns.specs.declared.act.Act.{Act}
use Rattle.dft_patterns.specs.declared.act.Act.TheVariants.{Unset, Low, High, Pulse, ExpectLow, ExpectHigh, Ignore}
use Rattle.dft_replay.specs.declared.verdict.Unknowns.TheVariants.{Skip}
use Rattle.dft_replay.specs.Rows.{compared_from, act_on, is_pulse}
use Rattle.dft_replay.specs.Verdicts.{bit_decides, bits_decide}
use Rattle.dft_evaluator.specs.Wides.{value_in, values_in, unknown_wide}
use Rattle.dft_evaluator.proofs.BitLemmas.{all_unknown}
use Rattle.dft_evaluator.proofs.WideLemmas.{value_is}
use Rattle.dft_logic.specs.declared.circuit.FlipFlop.{FlipFlop}
use Rattle.dft_logic.specs.declared.circuit.Op.{Op}
use Rattle.dft_logic.specs.declared.circuit.Op.TheVariants as op
use Rattle.dft_takings.specs.declared.shown.Shown.{Shown}
use Rattle.dft_cells.proofs.TakesLemmas.{left_rests}
use Rattle.dft_logic.proofs.Writings.{force_listed}
use Rattle.dft_logic.specs.Circuit.{Circuit, cell_of, force_at, force_nets, meaning, op_at, flag_at}
use Rattle.dft_logic.specs.Values.{value_at}
use Rattle.dft_takings.specs.Needs.{HasAll, next_reads}
use Rattle.dft_takings.specs.Shows.{still_needs}
use Rattle.dft_takings.specs.ShownTables.{shown_at}
use Rattle.dft_logic.proofs.Fillings.{front}
use Rattle.dft_logic.proofs.Writings.{cell_read, cell_past}
use Rattle.dft_takings.proofs.PlanLemmas.{or_only}
use Rattle.dft_fault_laws.specs.Rounds.{every}
use Rattle.dft_fault_lanes.specs.declared.clamps.Clamp.{Clamp}
use Rattle.dft_fault_lanes.specs.declared.marking.Steer.{Steer}
use Rattle.dft_fault_lanes.specs.declared.plans.Plan.{Plan}
use Rattle.dft_fault_lanes.specs.Lanes.{clamped, Situation, lane_given, AreSettledOn, KeepsSteady, IsLive, flop_at, is_changed}
use Rattle.dft_fault_lanes.specs.Plans.{needs_of, Steers, SteersAll, HasReadsOf, AreCovered, cell_needs, pulse_on}
use Rattle.dft_fault_lanes.specs.Moves.{NoneActs, HasForces, is_carried}
use Rattle.dft_fault_lanes.specs.Made.{IsPlan}
use Rattle.dft_fault_lanes.specs.Pulses.{NoneFalls}
use Rattle.dft_fault_lanes.proofs.MarkLemmas.{reads_of_needs}
use Rattle.dft_fault_lanes.proofs.MoveLemmas.{falls_stay}
use Rattle.dft_fault_lanes.proofs.IdleLemmas.{left_falls}
use Rattle.dft_fault_lanes.proofs.WholeLemmas.{both_sets}

-- ---- what is settled

pub settled_needs : (x : Circuit) (s : Situation) (marked : List Bool) (list : List NetId) (wides : List Wide) → length wides ≡ length x.ops → length s.clamps ≡ length x.ops → ((k : ℕ) → flag_at marked k ≡ true → Has (numbers_of list) k) →
    ((lane k : ℕ) → lane < 512 → Has (numbers_of list) k → values_in wides lane k ≡ lane_given s lane (values_in wides lane) k (meaning (op_at x.ops k))) →
    AreSettledOn x.ops s (needs_of (length x.ops) marked) wides
settled_needs x s marked list wides len clamps listed settled lane k within need = elim (leb_tells (length x.ops) k) [
  | inl out ↦ (let far : length wides ≤ k = omega (arith, out.1, len) in
      let free : length s.clamps ≤ k = omega (arith, out.1, clamps) in
      ap (λ (v : Wide). value_in v lane) (get_or_past wides k unknown_wide far) ∙ value_is unknown_wide (λ lane. Unknown) all_unknown lane within
      ∙ sym (ap (λ (o : Option Clamp). clamped o lane Unknown) (get_or_past s.clamps k None free))
      ∙ sym (ap (λ (o : Op). lane_given s lane (values_in wides lane) k (meaning o)) (get_or_past x.ops k op.Free out.1)))
  | inr live ↦ settled lane k within (listed k (or_only (flag_at marked k) (nat_le (length x.ops) k) live.0 need))
]

-- ---- which lanes stay live

-- what is still is of the plan's nets, where clocks fall
keeps_needed : (x : Circuit) (clamps : List (Option Clamp)) (l : Layout) (signals : List NetId) (p : Plan) (wides : List Wide) (old new : Wide) → IsPlan x clamps l signals p → ((lane : ℕ) → lane < 512 → IsLive new lane → Steers p.steer (values_in wides lane)) →
    KeepsSteady x.flops false p.pulsed.items every p.falls.items wides old new → KeepsSteady x.flops false p.pulsed.items (needs_of (length x.ops) p.marked.items) p.falls.items wides old new
keeps_needed x clamps l signals p wides old new is steers keeps lane within h =
    let was = keeps lane within h in (
      was.0,
      λ c up ports. both_sets (needs_of (length x.ops) p.marked.items) (shown_at p.falls.items) (flop_at x.flops c).domain (nets_of (next_reads (flop_at x.flops c) ports (value_from (values_in wides lane))))
          (is.reads c (falls_stay x clamps l signals p c is up) ports (values_in wides lane) (steers lane within h)) (was.1 c up ports),
    )

-- the same where lanes were dropped first
pub keeps_after : (x : Circuit) (clamps : List (Option Clamp)) (l : Layout) (signals : List NetId) (p : Plan) (known : Bool) (wides : List Wide) (old middle new : Wide) → IsPlan x clamps l signals p → (known ≡ true → SteersAll p.steer wides) →
    ((lane : ℕ) → lane < 512 → IsLive middle lane → (known ≡ true) × IsLive old lane) → KeepsSteady x.flops false p.pulsed.items every p.falls.items wides middle new →
    KeepsSteady x.flops false p.pulsed.items (needs_of (length x.ops) p.marked.items) p.falls.items wides old new
keeps_after x clamps l signals p known wides old middle new is steers fewer keeps lane within h =
    let up : (lane : ℕ) → lane < 512 → IsLive new lane → Steers p.steer (values_in wides lane) = λ lane within h. steers (fewer lane within (keeps lane within h).0).0 lane within in
    let was = keeps_needed x clamps l signals p wides middle new is up keeps lane within h in
    ((fewer lane within was.0).1, was.1)

-- where no register moves no cell is carried
pub none_left : (l : Layout) (c : ℕ) → is_carried l [] c ≡ false
none_left l c = ap (λ (b : Bool). b && nat_lt 0 (place_at l.places c).index) (get_or_past [] (place_at l.places c).register false (omega arith))

-- an empty list
pub no_items : (xs : List ℕ) (n : ℕ) → n ≡ length xs → (n == 0) ≡ true → xs ≡ []
no_items [] n size is = refl
no_items (x ∷ xs) n size is = elim (eqb_tells n 0) [
  | inl same ↦ absurd (omega (arith, same.1, size))
  | inr other ↦ absurd (true≢false (sym is ∙ other.0))
]

-- where no cell is listed none falls
pub no_falls : (x : Circuit) (clamps : List (Option Clamp)) (l : Layout) (signals : List NetId) (p : Plan) → IsPlan x clamps l signals p → p.falling.items ≡ [] → NoneFalls x p.pulsed.items
no_falls x clamps l signals p is none c = elim (leb_tells (length x.flops) c) [
  | inl far ↦ ap (λ (k : Cell). is_changed k false p.pulsed.items) (cell_past x.flops c far.1) ∙ and_false (flag_at p.pulsed.items 0)
  | inr near ↦ elim (cases_Bool (is_changed (flop_at x.flops c) false p.pulsed.items)) [
    | inl up ↦ (let F : List ℕ → Type 0 = λ l. Has l c in absurd (subst F none (is.falling.0 c near.1 up (left_falls l x.flops p.pulsed.items c (none_left l c) up))))
    | inr down ↦ down
  ]
]

-- where the cells read what is still, whatever they take, each that takes a value does
pub steady_reads : (flops : List FlipFlop) (s : Steer) (pulsed : List Bool) (shown : List Shown) →
    ((c : ℕ) → c < length flops → is_changed (flop_at flops c) true pulsed ≡ true → HasAll (still_needs every (shown_at shown) (flop_at flops c).domain) (cell_needs s (flop_at flops c))) →
    (c : ℕ) → is_changed (flop_at flops c) true pulsed ≡ true → HasReadsOf (still_needs every (shown_at shown) (flop_at flops c).domain) s (flop_at flops c)
steady_reads flops s pulsed shown all c up = elim (leb_tells (length flops) c) [
  | inl far ↦ λ ports values steers. (let Q : Cell → Type 0 = λ k. HasAll (still_needs every (shown_at shown) k.domain) (nets_of (next_reads k ports (value_from values))) in subst Q (sym (cell_past flops c far.1)) tt)
  | inr near ↦ reads_of_needs (still_needs every (shown_at shown) (flop_at flops c).domain) s (flop_at flops c) (all c near.1 up)
]

-- ---- the ports of resets and sets

numbers_left : (nets : List NetId) (net : NetId) (k : ℕ) → Has (numbers_of nets) k → Has (numbers_of (nets ++ net ∷ [])) k
numbers_left [] net k h = absurd h
numbers_left (first ∷ nets) net k h = elim h [ inl e ↦ inl e | inr rest ↦ inr (numbers_left nets net k rest) ]

numbers_last : (nets : List NetId) (net : NetId) → Has (numbers_of (nets ++ net ∷ [])) net.0
numbers_last [] net = inl refl
numbers_last (first ∷ nets) net = inr (numbers_last nets net)

pub added_left : (old new : List NetId) (net : NetId) (k : ℕ) → new ≡ old ++ net ∷ [] → Has (numbers_of old) k → Has (numbers_of new) k
added_left old new net k made h = let F : List NetId → Type 0 = λ l. Has (numbers_of l) k in subst F (sym made) (numbers_left old net k h)

pub added_last : (old new : List NetId) (net : NetId) → new ≡ old ++ net ∷ [] → Has (numbers_of new) net.0
added_last old new net made = let F : List NetId → Type 0 = λ l. Has (numbers_of l) net.0 in subst F (sym made) (numbers_last old net)

pub numbers_read : (nets : List NetId) (j : ℕ) (d : NetId) → j < length nets → Has (numbers_of nets) (get_or nets j d).0
numbers_read [] j d less = absurd (omega arith)
numbers_read (first ∷ nets) zero d less = inl refl
numbers_read (first ∷ nets) (suc j) d less = inr (numbers_read nets j d (omega arith))

-- the ports of the cells before one
pub record Forcing (flops : List FlipFlop) (list : List NetId) (place : ℕ) : Type 0 where
  pub count : length list ≤ place
  pub has : (c port : ℕ) → c < place → Has (force_nets (flop_at flops c).forces) port → Has (numbers_of list) port

pub forcing_starts : (flops : List FlipFlop) (list : List NetId) → list ≡ [] → Forcing flops list 0
forcing_starts flops list none = let size : length list ≡ 0 = ap length none in record { count = omega (arith, size); has = λ c port less. absurd (omega arith) }

pub forcing_more : (flops : List FlipFlop) (list now : List NetId) (place : ℕ) (flop : FlipFlop) → place < length flops → flop ≡ get_or flops place flop → length now ≤ length list + 1 → ((k : ℕ) → Has (numbers_of list) k → Has (numbers_of now) k) →
    ((k : ℕ) → Has (force_nets (force_at flop.force)) k → Has (numbers_of now) k) → Forcing flops list place → Forcing flops now (place + 1)
forcing_more flops list now place flop less read size kept here old =
    let cell : cell_of flop ≡ flop_at flops place = ap cell_of read ∙ cell_read flops place flop less in
    let before = old.count in
    record {
      count = omega (arith, size, before);
      has = λ c port within h. elim (cases_eq c place) [
        | inl e ↦ here port (let F : Cell → Type 0 = λ k. Has (force_nets k.forces) port in subst F (sym cell) (subst (λ (i : ℕ). Has (force_nets (flop_at flops i).forces) port) e h))
        | inr ne ↦ kept port (old.has c port (omega (arith, within, ne)) h)
      ];
    }

-- the ports of a list before a place are 1
abbrev pub OnesTo : (nets : List NetId) → (ports : List Tri) → (j : ℕ) → Type 0
OnesTo nets ports j = (net : ℕ) → Has (numbers_of nets) net → (value_at ports net ≡ One) ⊎ Has (numbers_of (drop j nets)) net

pub ones_more : (nets : List NetId) (ports : List Tri) (j : ℕ) (net : NetId) → j < length nets → net ≡ get_or nets j net → value_at ports net.0 ≡ One → OnesTo nets ports j → OnesTo nets ports (j + 1)
ones_more nets ports j net less is one old k h = elim (old k h) [
  | inl up ↦ inl up
  | inr later ↦ (let F : List NetId → Type 0 = λ l. Has (numbers_of l) k in elim (subst F (front nets j net less is) later) [ inl e ↦ inl (ap (value_at ports) e ∙ one) | inr rest ↦ inr rest ])
]

pub ones_all : (nets : List NetId) (ports : List Tri) (j : ℕ) → length nets ≤ j → OnesTo nets ports j → (net : ℕ) → Has (numbers_of nets) net → value_at ports net ≡ One
ones_all nets ports j past old net h = elim (old net h) [
  | inl up ↦ up
  | inr later ↦ (let F : List NetId → Type 0 = λ l. Has (numbers_of l) net in absurd (subst F (drop_all j nets past) later))
]

unforced : (forces : Forces ℕ) (ports : List Tri) (t : Tri) → ((port : ℕ) → Has (force_nets forces) port → value_at ports port ≡ One) → tri_forced_by forces (value_at ports) t ≡ t
unforced forces ports t ones = left_rests forces (value_at ports) t (λ port is. ones port (force_listed forces port is))

-- where all ports of resets and sets are 1 none acts
pub none_acts : (flops : List FlipFlop) (ports : List Tri) (forces : List NetId) → HasForces flops (numbers_of forces) → ((net : ℕ) → Has (numbers_of forces) net → value_at ports net ≡ One) → NoneActs flops ports
none_acts flops ports forces has ones c near t = unforced (flop_at flops c).forces ports t (λ port h. ones port (has c port near h))

-- ---- acts

pulse_if : (b : Bool) (act rest : Act) → (if b then is_pulse act else is_pulse rest) ≡ is_pulse (if b then act else rest)
pulse_if true act rest = refl
pulse_if false act rest = refl

pub pulse_on_acts : (nets : List ℕ) (acts : List Act) (net : ℕ) → pulse_on nets (map is_pulse acts) net ≡ is_pulse (act_on nets acts net)
pulse_on_acts [] acts net = refl
pulse_on_acts (first ∷ nets) [] net = refl
pulse_on_acts (first ∷ nets) (act ∷ acts) net = ap (λ r. if first == net then is_pulse act else r) (pulse_on_acts nets acts net) ∙ pulse_if (first == net) act (act_on nets acts net)

-- assignments that agree on a plan's nets decide the same
pub covered_decides : (nets : List NetId) (acts : List Act) (count : ℕ) (marked : List Bool) (v i : ℕ) (values w : ℕ → Tri) → AreCovered nets acts marked → ((net : ℕ) → needs_of count marked net ≡ true → values net ≡ w net) →
    bits_decide Skip values v (compared_from i (numbers_of nets) acts) ≡ bits_decide Skip w v (compared_from i (numbers_of nets) acts)
covered_decides [] acts count marked v i values w covered same = refl
covered_decides (net ∷ nets) [] count marked v i values w covered same = refl
covered_decides (net ∷ nets) (Unset ∷ acts) count marked v i values w covered same = covered_decides nets acts count marked v (suc i) values w (λ signal bit is. covered (suc signal) bit is) same
covered_decides (net ∷ nets) (Low ∷ acts) count marked v i values w covered same = covered_decides nets acts count marked v (suc i) values w (λ signal bit is. covered (suc signal) bit is) same
covered_decides (net ∷ nets) (High ∷ acts) count marked v i values w covered same = covered_decides nets acts count marked v (suc i) values w (λ signal bit is. covered (suc signal) bit is) same
covered_decides (net ∷ nets) (Pulse ∷ acts) count marked v i values w covered same = covered_decides nets acts count marked v (suc i) values w (λ signal bit is. covered (suc signal) bit is) same
covered_decides (net ∷ nets) (Ignore ∷ acts) count marked v i values w covered same = covered_decides nets acts count marked v (suc i) values w (λ signal bit is. covered (suc signal) bit is) same
covered_decides (net ∷ nets) (ExpectLow ∷ acts) count marked v i values w covered same =
    let rest = covered_decides nets acts count marked v (suc i) values w (λ signal bit is. covered (suc signal) bit is) same in
    let here : values net.0 ≡ w net.0 = same net.0 (or_left (flag_at marked net.0) (nat_le count net.0) (covered 0 false refl)) in
    λ t. bit_decides Skip v i (here t) false (rest t)
covered_decides (net ∷ nets) (ExpectHigh ∷ acts) count marked v i values w covered same =
    let rest = covered_decides nets acts count marked v (suc i) values w (λ signal bit is. covered (suc signal) bit is) same in
    let here : values net.0 ≡ w net.0 = same net.0 (or_left (flag_at marked net.0) (nat_le count net.0) (covered 0 true refl)) in
    λ t. bit_decides Skip v i (here t) true (rest t)
