-- Any events of a design, with any free bits, are gone through by the design and by its scanned netlist with scan_enable 0.
use Rattle.std.proofs.Common.{ℕ, ◌+◌, ◌-◌, ◌<◌, ◌≡◌, Bool, true, false, nat_lt, List, [], ◌∷◌, map, refl, ap, arith, ◌∙◌}
use Rattle.std.specs.Prelude.{if◌then◌else◌}
use Rattle.std.proofs.lemmas.Bool.Decides.{nat_tests}
use Rattle.dft_base.specs.declared.tri.Tri.{Tri}
use Rattle.dft_base.specs.declared.tri.Tri.TheVariants.{Zero}
use Rattle.dft_netlist.specs.Netlist.{Netlist}
use Rattle.dft_netlist.proofs.RankLemmas.{order_ranks}
use Rattle.dft_behavior.specs.Logic.{Logic, IsRanked, logic_of}
use Rattle.dft_behavior.specs.Runs.{Now, sources_of, IsNow, Event, Set, Rise, Fall, after_event, at_moment, Step, next_now, AreSteps}
use Rattle.dft_behavior.proofs.OneSettled.{settled_one}
use Rattle.dft_behavior.proofs.Ranks.{order_is_rank}
use Rattle.dft_config.specs.Config.{Config}
use Rattle.dft_chains.specs.ScanOff.{Places, IsSameEvent, SameSet, SameRise, SameFall, AreFreeAlike, AreSameSteps, set_to}
use Rattle.dft_scan_frame.specs.ConfigPorts.{config_ports}
use Rattle.dft_scan_frame.specs.Moves.{Gap, moved}
use Rattle.dft_scan_frame.specs.Statements.{IsReady}
use Rattle.dft_insert.specs.declared.style.Style.{Style}
use Rattle.dft_insert.specs.Ports.{gap_in}
use Rattle.dft_insert.specs.Statements.{scanned}
use Rattle.dft_insert.specs.Agreeing.{ports_in, places_in}
use Rattle.dft_insert.proofs.Finished.{scanned_orderable}
use Rattle.dft_insert.proofs.Frames.{some_ports}
use Rattle.dft_scan_behavior.specs.Existence.{EventsRunWhileOff, SameEvents}
use Rattle.dft_scan_behavior.proofs.Heights.{ranked}

-- ---- any events settle

-- a step with this event and these free bits, settled
abbrev settled_step : (l : Logic) (rank : ℕ → ℕ) → IsRanked l rank → Now → Step → Step
settled_step l rank order now step = record {
  event = step.event;
  moment = record {
    free = step.moment.free;
    loose = step.moment.loose;
    seen = (settled_one l rank (sources_of (record { state = at_moment l step.moment (after_event l now step.event); moment = step.moment })) order).0;
  };
}

step_settled : (l : Logic) (rank : ℕ → ℕ) (order : IsRanked l rank) (now : Now) (step : Step) → IsNow l (next_now l now (settled_step l rank order now step))
step_settled l rank order now step = (settled_one l rank (sources_of (record { state = at_moment l step.moment (after_event l now step.event); moment = step.moment })) order).1.0

abbrev settled_steps : (l : Logic) (rank : ℕ → ℕ) → IsRanked l rank → Now → List Step → List Step
settled_steps l rank order now [] = []
settled_steps l rank order now (step ∷ steps) = settled_step l rank order now step ∷ settled_steps l rank order (next_now l now (settled_step l rank order now step)) steps

all_settled : (l : Logic) (rank : ℕ → ℕ) (order : IsRanked l rank) (now : Now) (steps : List Step) → AreSteps l now (settled_steps l rank order now steps)
all_settled l rank order now [] = tt
all_settled l rank order now (step ∷ steps) = (step_settled l rank order now step, all_settled l rank order (next_now l now (settled_step l rank order now step)) steps)

same_events : (l : Logic) (rank : ℕ → ℕ) (order : IsRanked l rank) (now : Now) (steps : List Step) → SameEvents steps (settled_steps l rank order now steps)
same_events l rank order now [] = tt
same_events l rank order now (step ∷ steps) = (refl, (record { free = refl; loose = refl }, same_events l rank order (next_now l now (settled_step l rank order now step)) steps))

-- ---- what is given to the design's nets, given to their places

-- what is given to a net, by its place in the scanned netlist; nets of the gap get something else
back : {T : Type 0} → Gap → (other : T) → (given : ℕ → T) → (net : ℕ) → T
back gap other given net = if nat_lt net gap.before then given net else (if nat_lt net (gap.before + gap.width) then other else given (net - gap.width))

back_by : {T : Type 0} (before width : ℕ) (other : T) (given : ℕ → T) (net : ℕ) (b : Bool) → nat_lt net before ≡ b →
    let at : ℕ = if b then net else net + width in
    (if nat_lt at before then given at else (if nat_lt at (before + width) then other else given (at - width))) ≡ given net
back_by before width other given net true is = ap (λ b. if b then given net else (if nat_lt net (before + width) then other else given (net - width))) is
back_by before width other given net false is =
    let first : nat_lt (net + width) before ≡ false = grind (arith, nat_tests, is) in
    let second : nat_lt (net + width) (before + width) ≡ false = grind (arith, nat_tests, is) in
    let at : net + width - width ≡ net = omega arith in
    ap (λ b. if b then given (net + width) else (if nat_lt (net + width) (before + width) then other else given (net + width - width))) first
    ∙ ap (λ b. if b then other else given (net + width - width)) second
    ∙ ap given at

back_moved : {T : Type 0} (gap : Gap) (other : T) (given : ℕ → T) (net : ℕ) → back gap other given (moved gap net) ≡ given net
unfolding back
back_moved gap other given net = back_by gap.before gap.width other given net (nat_lt net gap.before) refl

back_first : {T : Type 0} (gap : Gap) (other : T) (given : ℕ → T) → 0 < gap.width → back gap other given gap.before ≡ other
unfolding back
back_first gap other given some =
    let first : nat_lt gap.before gap.before ≡ false = grind (arith, nat_tests) in
    let second : nat_lt gap.before (gap.before + gap.width) ≡ true = grind (arith, nat_tests, some) in
    ap (λ b. if b then given gap.before else (if nat_lt gap.before (gap.before + gap.width) then other else given (gap.before - gap.width))) first
    ∙ ap (λ b. if b then other else given (gap.before - gap.width)) second

-- an event of the design in the scanned netlist, with scan_enable 0
abbrev event_back : Gap → Event → Event
event_back gap (Set ports) = Set (back gap Zero ports)
event_back gap (Rise domains) = Rise (back gap false domains)
event_back gap (Fall domains) = Fall (back gap false domains)

abbrev step_back : Gap → Step → Step
step_back gap step = record { event = event_back gap step.event; moment = record { free = back gap false step.moment.free; loose = step.moment.loose; seen = step.moment.seen } }

module _ (style : Style) (n : Netlist) (config : Config) (ready : IsReady n config) where
  abbrev gap : Gap
  gap = gap_in style n config

  abbrev p : Places
  p = places_in style n config

  off : (ports : ℕ → Tri) → back gap Zero ports p.enable ≡ Zero
  off ports = back_first gap Zero ports (some_ports style config)

  same_event : (ports : ℕ → Tri) (event : Event) → IsSameEvent p ports (event_back gap event) event
  same_event ports (Set given) = SameSet (off given) (λ net less. back_moved gap Zero given net)
  same_event ports (Rise domains) = SameRise (λ domain. back_moved gap false domains domain)
  same_event ports (Fall domains) = SameFall (λ domain. back_moved gap false domains domain)

  -- the moments of settled steps have the free bits that were given
  free_back : (l original : Logic) (rank its_rank : ℕ → ℕ) (order : IsRanked l rank) (its_order : IsRanked original its_rank) (now its : Now) (step : Step) →
      AreFreeAlike p (settled_step l rank order now (step_back gap step)).moment (settled_step original its_rank its_order its step).moment
  free_back l original rank its_rank order its_order now its step = record { nets = λ net less. back_moved gap false step.moment.free net; pins = λ i pin. refl }

  same_steps : (l original : Logic) (rank its_rank : ℕ → ℕ) (order : IsRanked l rank) (its_order : IsRanked original its_rank) (now its : Now) (steps : List Step) →
      AreSameSteps original p its (settled_steps l rank order now (map (step_back gap) steps)) (settled_steps original its_rank its_order its steps)
  same_steps l original rank its_rank order its_order now its [] = tt
  same_steps l original rank its_rank order its_order now its (step ∷ steps) = (
    same_event its.state.ports step.event,
    free_back l original rank its_rank order its_order now its step,
    same_steps l original rank its_rank order its_order (next_now l now (settled_step l rank order now (step_back gap step))) (next_now original its (settled_step original its_rank its_order its step)) steps,
  )

-- ---- the law

pub events_run : EventsRunWhileOff
events_run style n config ready now its ports free events =
    let l : Logic = logic_of (scanned style n config) (ports_in style n config) in
    let original : Logic = logic_of n (config_ports n config) in
    let rank = ranked (scanned style n config) (ports_in style n config) (λ net. scanned_orderable style n config ready net) in
    let nets = order_ranks n ready.order ready.netlist ready.ordered in
    let its_order : IsRanked original nets.0 = order_is_rank n (config_ports n config) nets.0 nets.1 in
    let gap : Gap = gap_in style n config in
    let first : Step = settled_step l rank.0 rank.1 now (step_back gap (set_to ports free)) in
    let its_first : Step = settled_step original nets.0 its_order its (set_to ports free) in record {
      given = back gap Zero ports;
      m = first.moment;
      o = its_first.moment;
      steps = settled_steps l rank.0 rank.1 (next_now l now first) (map (step_back gap) events);
      others = settled_steps original nets.0 its_order (next_now original its its_first) events;
      events_are = same_events original nets.0 its_order its (set_to ports free ∷ events);
      off = off style n config ready ports;
      ports_are = λ net less. back_moved gap Zero ports net;
      alike = free_back style n config ready l original rank.0 nets.0 rank.1 its_order now its (set_to ports free);
      same = same_steps style n config ready l original rank.0 nets.0 rank.1 its_order (next_now l now first) (next_now original its its_first) events;
      settled = all_settled l rank.0 rank.1 now (map (step_back gap) (set_to ports free ∷ events));
      its_settled = all_settled original nets.0 its_order its (set_to ports free ∷ events);
    }
