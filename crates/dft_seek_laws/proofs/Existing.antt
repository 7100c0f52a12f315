-- Wherever a vector captures, both designs have a turn; and a cube that is told can be applied.
use Rattle.std.proofs.Common.{ℕ, zero, suc, ◌<◌, ◌+◌, ◌≡◌, ◌==◌, ◌&&◌, ◌∙◌, ◌⊎◌, inl, inr, Bool, true, false, not, List, [], ◌∷◌, filter, map, Option, None, Some, slice_get, refl, sym, subst, ap, arith, true≢false}
use Rattle.std.specs.Prelude.{if◌then◌else◌}
use Rattle.std.specs.Option.{option_or}
use Rattle.std.proofs.lemmas.Bool.{and_parts, eq-eqb, eqb-true}
use Rattle.std.proofs.lemmas.Option.{none-some, same_Some}
use Rattle.dft_base.specs.declared.tri.Tri.{Tri}
use Rattle.dft_base.specs.declared.tri.Tri.TheVariants.{One}
use Rattle.dft_base.specs.Tri.{known}
use Rattle.dft_netlist.specs.declared.ids.NetId.{NetId}
use Rattle.dft_netlist.specs.Netlist.{Netlist}
use Rattle.dft_netlist.specs.Drivers.{IsOrdered}
use Rattle.dft_behavior.specs.Logic.{Logic, Ports, logic_of}
use Rattle.dft_behavior.specs.Runs.{IsRun, IsTurn, Now, State, Turn, Vector}
use Rattle.dft_behavior.proofs.Ranks.{order_is_rank}
use Rattle.dft_runs.proofs.Orders.{runs_exist}
use Rattle.dft_faults.specs.Faulty.{faulty}
use Rattle.dft_faults.proofs.Finished.{order_stays}
use Rattle.dft_seek.specs.Searches.{Search}
use Rattle.dft_seek_laws.specs.Applied.{IsCapture}
use Rattle.dft_seek_laws.specs.Laws.{TurnsExist}

-- ---- turns

one_turn : (l : Logic) (x : Vector) (now : Now) (turns : List Turn) → IsRun l (x ∷ []) now turns → (t : Turn) × IsTurn l x now t
one_turn l x now [] run = absurd run.turns
one_turn l x now (t ∷ turns) run = (t, run.turns.0)

turn_there : (n : Netlist) (ports : Ports) (rank : ℕ → ℕ) (s : Search) (now : Now) (x : Vector) → IsOrdered n rank → IsCapture s now x → (t : Turn) × IsTurn (logic_of n ports) x now t
turn_there n ports rank s now x order capture =
    let clock : ℕ = capture.clock.0 in
    let runs = runs_exist (logic_of n ports) rank (suc clock) (x ∷ []) now (order_is_rank n ports rank order) capture.low
    ((λ d up. (let same : clock ≡ d = eqb-true clock d (sym (capture.pulses d) ∙ up) in omega (arith, same))), tt) in
    one_turn (logic_of n ports) x now runs.0 runs.1

pub turns_there : TurnsExist
turns_there s rank ports now x can capture =
    (turn_there s.design ports rank s now x can.ordered capture, turn_there (faulty s.design s.fault) ports rank s now x (order_stays s.design s.fault rank can.is can.ordered) capture)
