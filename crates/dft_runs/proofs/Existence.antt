-- Runs exist: moment by moment there is one settled assignment.
use Rattle.std.proofs.Common.{ℕ, Bool, ◌+◌, List, [], ◌∷◌, ◌++◌, ◌≡◌, refl, ap, map, ◌∙◌, true, false}
use Rattle.std.specs.Prelude.{if◌then◌else◌}
use Rattle.dft_behavior.specs.Logic.{Logic, IsRanked}
use Rattle.dft_behavior.specs.Runs.{State, Moment, Now, sources_of, IsNow, Event, Set, event_of, after_event, at_moment, Step, next_now, after, AreSteps, Vector, Edge, Turn, edge_step, times, AreOfSome, IsOrder, IsTurn, after_turn, AreTurns}
use Rattle.dft_behavior.proofs.OneSettled.{settled_one}
use Rattle.dft_runs.specs.Choices.{SameEdges, SameChoice, SameChoices, AreOrders, ChoicesRun}

-- the moment with these free bits in a state
abbrev settled : (l : Logic) (rank : ℕ → ℕ) → IsRanked l rank → State → Moment → Moment
settled l rank ranked s m = record { free = m.free; loose = m.loose; seen = (settled_one l rank (sources_of (record { state = s; moment = m })) ranked).0 }

settled_now : (l : Logic) (rank : ℕ → ℕ) (ranked : IsRanked l rank) (s : State) (m : Moment) → IsNow l (record { state = s; moment = settled l rank ranked s m })
settled_now l rank ranked s m = (settled_one l rank (sources_of (record { state = s; moment = m })) ranked).1.0

-- ---- edges

abbrev event_step : ((ℕ → Bool) → Event) → Edge → Step
event_step event e = record { event = event e.domains; moment = e.moment }

abbrev settled_edge : (l : Logic) (rank : ℕ → ℕ) → IsRanked l rank → ((ℕ → Bool) → Event) → Now → Edge → Edge
settled_edge l rank ranked event now e = record { domains = e.domains; moment = settled l rank ranked (at_moment l e.moment (after_event l now (event e.domains))) e.moment }

abbrev settled_edges : (l : Logic) (rank : ℕ → ℕ) → IsRanked l rank → ((ℕ → Bool) → Event) → Now → List Edge → List Edge
settled_edges l rank ranked event now [] = []
settled_edges l rank ranked event now (e ∷ es) =
    settled_edge l rank ranked event now e ∷ settled_edges l rank ranked event (next_now l now (event_step event (settled_edge l rank ranked event now e))) es

edges_step : (l : Logic) (rank : ℕ → ℕ) (ranked : IsRanked l rank) (event : (ℕ → Bool) → Event) (now : Now) (es : List Edge) → AreSteps l now (map (event_step event) (settled_edges l rank ranked event now es))
edges_step l rank ranked event now [] = tt
edges_step l rank ranked event now (e ∷ es) = (
  settled_now l rank ranked (at_moment l e.moment (after_event l now (event e.domains))) e.moment,
  edges_step l rank ranked event (next_now l now (event_step event (settled_edge l rank ranked event now e))) es,
)

edges_same : (l : Logic) (rank : ℕ → ℕ) (ranked : IsRanked l rank) (event : (ℕ → Bool) → Event) (now : Now) (es : List Edge) → SameEdges es (settled_edges l rank ranked event now es)
edges_same l rank ranked event now [] = tt
edges_same l rank ranked event now (e ∷ es) = (refl, (record { free = refl; loose = refl }, edges_same l rank ranked event (next_now l now (event_step event (settled_edge l rank ranked event now e))) es))

edges_times : (l : Logic) (rank : ℕ → ℕ) (ranked : IsRanked l rank) (event : (ℕ → Bool) → Event) (now : Now) (es : List Edge) (d : ℕ) → times d (settled_edges l rank ranked event now es) ≡ times d es
edges_times l rank ranked event now [] d = refl
edges_times l rank ranked event now (e ∷ es) d = ap (λ k. (if e.domains d then 1 else 0) + k) (edges_times l rank ranked event (next_now l now (event_step event (settled_edge l rank ranked event now e))) es d)

edges_some : (l : Logic) (rank : ℕ → ℕ) (ranked : IsRanked l rank) (event : (ℕ → Bool) → Event) (now : Now) (es : List Edge) → AreOfSome es → AreOfSome (settled_edges l rank ranked event now es)
edges_some l rank ranked event now [] some = tt
edges_some l rank ranked event now (e ∷ es) some = (some.0, edges_some l rank ranked event (next_now l now (event_step event (settled_edge l rank ranked event now e))) es some.1)

-- which clocks rise or fall at once stays, and in which order
edges_order : (l : Logic) (rank : ℕ → ℕ) (ranked : IsRanked l rank) (event : (ℕ → Bool) → Event) (now : Now) (pulsed : ℕ → Bool) (es : List Edge) → IsOrder pulsed es → IsOrder pulsed (settled_edges l rank ranked event now es)
edges_order l rank ranked event now pulsed es order = record {
  once = λ d. edges_times l rank ranked event now es d ∙ order.once d;
  some = edges_some l rank ranked event now es order.some;
}

steps_join : (l : Logic) (now : Now) (front back : List Step) → AreSteps l now front → AreSteps l (after l now front) back → AreSteps l now (front ++ back)
steps_join l now [] back first second = second
steps_join l now (step ∷ front) back first second = (first.0, steps_join l (next_now l now step) front back first.1 second)

-- ---- turns

module _ (l : Logic) (rank : ℕ → ℕ) (ranked : IsRanked l rank) where
  abbrev turn_strobe : Vector → Now → Turn → Moment
  turn_strobe x now t = settled l rank ranked (at_moment l t.strobe (after_event l now (Set x.ports))) t.strobe

  abbrev after_strobe : Vector → Now → Turn → Now
  after_strobe x now t = next_now l now (record { event = Set x.ports; moment = turn_strobe x now t })

  abbrev turn_rises : Vector → Now → Turn → List Edge
  turn_rises x now t = settled_edges l rank ranked (event_of true) (after_strobe x now t) t.rises

  abbrev turn_falls : Vector → Now → Turn → List Edge
  turn_falls x now t = settled_edges l rank ranked (event_of false) (after l (after_strobe x now t) (map (edge_step true) (turn_rises x now t))) t.falls

  abbrev settled_turn : Vector → Now → Turn → Turn
  settled_turn x now t = record { strobe = turn_strobe x now t; rises = turn_rises x now t; falls = turn_falls x now t }

  turn_is : (x : Vector) (now : Now) (t : Turn) → IsOrder x.pulsed t.rises → IsOrder x.pulsed t.falls → IsTurn l x now (settled_turn x now t)
  turn_is x now t rises falls =
      let first : Now = after_strobe x now t in
      let last : Now = after l first (map (edge_step true) (turn_rises x now t)) in
      record {
        steps = (
          settled_now l rank ranked (at_moment l t.strobe (after_event l now (Set x.ports))) t.strobe,
          steps_join l first (map (edge_step true) (turn_rises x now t)) (map (edge_step false) (turn_falls x now t)) (edges_step l rank ranked (event_of true) first t.rises) (edges_step l rank ranked (event_of false) last t.falls),
        );
        rises = edges_order l rank ranked (event_of true) first x.pulsed t.rises rises;
        falls = edges_order l rank ranked (event_of false) last x.pulsed t.falls falls;
      }

  turn_same : (x : Vector) (now : Now) (t : Turn) → SameChoice t (settled_turn x now t)
  turn_same x now t = record {
    strobe = record { free = refl; loose = refl };
    rises = edges_same l rank ranked (event_of true) (after_strobe x now t) t.rises;
    falls = edges_same l rank ranked (event_of false) _ t.falls;
  }

  turns_exist : (xs : List Vector) (now : Now) (choices : List Turn) → AreOrders xs choices → (turns : List Turn) × (AreTurns l now xs turns × SameChoices choices turns)
  turns_exist [] now [] orders = ([], (tt, tt))
  turns_exist [] now (t ∷ ts) orders = absurd orders
  turns_exist (x ∷ xs) now [] orders = absurd orders
  turns_exist (x ∷ xs) now (t ∷ ts) orders =
      let u : Turn = settled_turn x now t in
      let rest = turns_exist xs (after_turn l x now u) ts orders.1 in
      (u ∷ rest.0, ((turn_is x now t orders.0.0 orders.0.1, rest.1.0), (turn_same x now t, rest.1.1)))

pub choices_run : ChoicesRun
choices_run l rank xs start choices ranked low orders =
    let found = turns_exist l rank ranked xs start choices orders in
    (found.0, (record { low = low; turns = found.1.0 }, found.1.1))
