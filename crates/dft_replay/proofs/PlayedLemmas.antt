-- The calls for a vector come to its round: inputs are set, nets are looked at, clocks pulse.
use Rattle.std.proofs.Common.{ℕ, Bool, List, ◌≡◌, Option, length, map, refl, sym, ap, ◌∙◌, subst, true, false}
use Rattle.std.specs.Prelude.{if◌then◌else◌}
use Rattle.dft_base.specs.declared.tri.Tri.{Tri}
use Rattle.dft_base.specs.declared.tri.Tri.TheVariants.{Zero}
use Rattle.dft_cells.specs.FlipFlops.{tri_forced_by}
use Rattle.dft_netlist.specs.declared.ids.NetId.{NetId}
use Rattle.dft_behavior.specs.Logic.{Logic}
use Rattle.dft_netlist.specs.Orders.{numbers_of}
use Rattle.dft_behavior.specs.Runs.{Vector}
use Rattle.dft_behavior.specs.Settled.{TriSources, value_from, is_wire, IsTriSettled}
use Rattle.dft_behavior.proofs.Ranks.{order_is_rank}
use Rattle.dft_abstract.specs.Cycle.{Pulse, after_pulse, IsLeast, rise_of, falls_after, strobe_sources, after_halves, Round, IsRound, after_round}
use Rattle.dft_takings.specs.Needs.{IsStrobe, strobe_from}
use Rattle.dft_takings.proofs.ShownLemmas.{still_there}
use Rattle.dft_cycle.specs.Machine.{Machine, value_at, logic, pulses, pulse_from, ports_of, IsPulsed}
use Rattle.dft_cycle.specs.MachineLaws.{IsForced, StandsSince}
use Rattle.dft_cycle.proofs.MachineRounds.{same_logic, halves_forced}
use Rattle.dft_patterns.specs.declared.act.Act.{Act}
use Rattle.dft_replay.specs.declared.comparing.Asked.{Asked}
use Rattle.dft_replay.specs.declared.verdict.Unknowns.{Unknowns}
use Rattle.dft_replay.specs.declared.verdict.Verdict.{Verdict}
use Rattle.dft_replay.specs.Looks.{HasRanks, asked_of, decided_seen}
use Rattle.dft_replay.specs.Rows.{Row, Compared, act_on, set_by, is_pulse, compared_from, row_of}
use Rattle.dft_replay.specs.Verdicts.{bits_decide}
use Rattle.dft_replay.specs.Vectors.{act_at, AreClocks, IsPlayed}
use Rattle.dft_replay.proofs.LookLemmas.{looks_decide}
use Rattle.dft_replay.proofs.VectorLemmas.{Differ, clocks_marked}

-- an assignment that is settled for a strobe of the machine, once its inputs are set, and its pulse are a round of the vector
record IsLooked (start set after : Machine) (x : Vector) (shown : ℕ → Tri) : Type 0 where
  pub round : Round
  pub holds : IsRound (logic start) x (value_at start.cells) round
  pub strobe : round.strobe ≡ shown
  pub cells : (c : ℕ) → value_at after.cells c ≡ after_round (logic start) x (value_at start.cells) round c
  pub forced : IsForced after

same_lockup : (high : Bool) (held new input : Tri) → held ≡ new → (if is_wire high false then input else held) ≡ (if high then new else input)
same_lockup true held new input same = same
same_lockup false held new input same = refl

looked_round : (start set after : Machine) (x : Vector) (pulsed : List Bool) (shown : ℕ → Tri) → StandsSince start set → ((net : ℕ) → value_at set.inputs net ≡ x.ports net) → ((e : ℕ) → pulses set.clocks pulsed e ≡ x.pulsed e) →
    IsStrobe (logic set) (value_at set.inputs) (value_at set.cells) shown → IsPulsed (logic set) set pulsed after → IsLooked start set after x shown
unfolding logic
looked_round start set after x pulsed shown stands ports ups settled pulse =
    let l : Logic = logic start in
    let one = same_logic start set stands.netlist stands.clocks in
    let three = same_logic start after (pulse.netlist ∙ stands.netlist) (pulse.clocks ∙ stands.clocks) in
    let old : ℕ → Tri = value_at start.cells in
    let p : Pulse = rise_of l x old in
    let inputs : value_at set.inputs ≡ x.ports = λ i k. ports k i in
    let cell : (c : ℕ) → value_at set.cells c ≡ p.old c = λ c. stands.cells c ∙ ap (λ (f : ℕ → Tri). tri_forced_by (l.cell c).forces f (old c)) inputs in
    let wires : TriSources = strobe_from (value_at set.inputs) (value_at set.cells) shown in
    let from : wires ≡ strobe_sources l x old shown = λ i. record { ports = inputs i; clocks = λ e. Zero; flops = λ c. cell c i; lockups = λ c e high source. same_lockup high (value_at set.cells c) (p.old c) (value_from shown source) (cell c) i } in
    let S : TriSources → Type 0 = λ t. IsTriSettled l t shown in
    let strobe : IsTriSettled l (strobe_sources l x old shown) shown = subst S from (subst (λ (k : Logic). IsTriSettled k wires shown) one settled) in
    let q : Pulse = pulse_from set pulsed in
    let qp : q ≡ p = λ i. record { rising = true; ports = inputs i; pulsed = λ e. ups e i; old = λ c. cell c i } in
    let P : Logic → Pulse → Type 0 = λ k u. IsLeast k u pulse.halves.rise.poss pulse.halves.rise.view × (IsLeast k (falls_after k u pulse.halves.rise.view) pulse.halves.fall.poss pulse.halves.fall.view
    × ((c : ℕ) → value_at after.cells c ≡ after_pulse k (falls_after k u pulse.halves.rise.view) pulse.halves.fall.view c)) in
    let all : P l p = subst (P l) qp (subst (λ (k : Logic). P k q) one (pulse.rise, (pulse.fall, pulse.cells))) in
    let cells : (c : ℕ) → value_at after.cells c ≡ after_halves l x old pulse.halves c = all.1.1 in
    let kept : value_at after.inputs ≡ x.ports = ap value_at pulse.inputs ∙ inputs in
    record {
      round = record { strobe = shown; halves = pulse.halves };
      holds = record { strobe = strobe; least = record { rise = all.0; fall = all.1.0 } };
      strobe = refl;
      cells = cells;
      forced = λ c.
          (let K : Logic → Type 0 = λ k. value_at after.cells c ≡ tri_forced_by (k.cell c).forces (value_at after.inputs) (value_at after.cells c) in
          let N : (ℕ → Tri) → Type 0 = λ f. value_at after.cells c ≡ tri_forced_by (l.cell c).forces f (value_at after.cells c) in
          let C : Tri → Type 0 = λ t. t ≡ tri_forced_by (l.cell c).forces x.ports t in
          subst K (sym three) (subst N (sym kept) (subst C (sym (cells c)) (halves_forced l x old pulse.halves c))));
    }

-- a strobe has a settled assignment, whatever the values of inputs and flip-flops
settled_exists : (m : Machine) → HasRanks m.netlist → (values : ℕ → Tri) × IsStrobe (logic m) (value_at m.inputs) (value_at m.cells) values
unfolding logic
settled_exists m ranks = still_there (logic m) ranks.0 (λ e. false) (value_at m.inputs) (value_at m.cells) (order_is_rank m.netlist (ports_of m.clocks) ranks.0 ranks.1)

-- a vector is played where its inputs are set, what is compared is decided at the strobe, and its clocks have pulsed
pub played : (u : Unknowns) (start set after : Machine) (nets : List NetId) (clocks : List ℕ) (pulsed : List Bool) (acts : List Act) (vector : ℕ) (wanted : List NetId) (asked : List Asked) (decision : Option Verdict) →
    (ranks : HasRanks start.netlist) → (differ : Differ (numbers_of nets)) → (same : length acts ≡ length nets) →
    (are : AreClocks start nets clocks acts) → (stands : StandsSince start set) → (inputs : ((net : ℕ) → value_at set.inputs net ≡ set_by (act_on (numbers_of nets) acts net) (value_at start.inputs net))) →
    (listed : numbers_of wanted ≡ map (λ (c : Compared). c.net) (compared_from 0 (numbers_of nets) acts)) → (printed : asked ≡ map asked_of (compared_from 0 (numbers_of nets) acts)) →
    (looks : ((values : ℕ → Tri) → IsStrobe (logic set) (value_at set.inputs) (value_at set.cells) values → decision ≡ decided_seen u vector asked (map (λ (net : NetId). values net.0) wanted))) →
    (marked : pulsed ≡ map (λ s. is_pulse (act_at acts s)) clocks) → (pulse : IsPulsed (logic set) set pulsed after) → IsPlayed u start (row_of (numbers_of nets) (value_at start.inputs) acts) vector decision after
played u start set after nets clocks pulsed acts vector wanted asked decision ranks differ same are stands inputs listed printed looks marked pulse =
    let x : Row = row_of (numbers_of nets) (value_at start.inputs) acts in
    let ups : (e : ℕ) → pulses set.clocks pulsed e ≡ x.vector.pulsed e = λ e.
    (λ t. pulses (stands.clocks t) (marked t) e) ∙ clocks_marked start nets clocks acts e differ same are in
    let settled = settled_exists set (subst HasRanks (sym stands.netlist) ranks) in
    let r = looked_round start set after x.vector pulsed settled.0 stands inputs ups settled.1 pulse in
    record {
      netlist = pulse.netlist ∙ stands.netlist;
      clocks = pulse.clocks ∙ stands.clocks;
      inputs = λ net. ap (λ (ts : List Tri). value_at ts net) pulse.inputs ∙ inputs net;
      forced = r.forced;
      round = r.round;
      holds = r.holds;
      says = looks settled.0 settled.1 ∙ looks_decide u settled.0 vector x.compared wanted asked listed printed ∙ ap (λ (w : ℕ → Tri). bits_decide u w vector x.compared) (sym r.strobe);
      cells = r.cells;
    }
