-- There are runs over the vectors of every pattern set.
use Rattle.std.proofs.Common.{ℕ, suc, ◌+◌, ◌<◌, ◌≡◌, ◌==◌, Bool, true, false, List, [], ◌∷◌, refl, arith}
use Rattle.std.specs.Prelude.{if◌then◌else◌}
use Rattle.std.proofs.lemmas.Bool.{eqb-true}
use Rattle.dft_base.specs.declared.tri.Tri.{Tri}
use Rattle.dft_abstract.specs.Cycle.{all_unknown}
use Rattle.dft_behavior.specs.Logic.{Ports, logic_of}
use Rattle.dft_netlist.specs.Netlist.{Netlist}
use Rattle.dft_netlist.specs.Drivers.{IsOrdered}
use Rattle.dft_netlist.specs.Orders.{IsOrder}
use Rattle.dft_behavior.specs.Runs.{Now, Turn, AreLow, IsRun}
use Rattle.dft_netlist.specs.Sound.{IsNetlist}
use Rattle.dft_netlist.proofs.RankLemmas.{order_ranks}
use Rattle.dft_behavior.proofs.Ranks.{order_is_rank}
use Rattle.dft_patterns.specs.declared.act.Act.{Act}
use Rattle.dft_patterns.specs.Patterns.{Patterns}
use Rattle.dft_replay.specs.Laws.{vectors_of as vectors_in}
use Rattle.dft_replay.specs.Rows.{act_on, is_pulse, nets_of, row_of, rows_from, rows_of as replayed_rows}
use Rattle.dft_runs.specs.Choices.{PulseBelow}
use Rattle.dft_runs.proofs.Orders.{runs_exist}

-- a number past all of these
past_all : List ℕ → ℕ
past_all [] = 0
past_all (k ∷ ks) = suc k + past_all ks

first_or_later : (first past net : ℕ) (act other : Act) (t : Bool) → (first == net) ≡ t → (is_pulse other ≡ true → net < past) → is_pulse (if t then act else other) ≡ true → net < suc first + past
first_or_later first past net act other true at later is = let same = eqb-true first net at in omega (arith, same)
first_or_later first past net act other false at later is = let less : net < past = later is in omega arith

-- what pulses is one of the nets of the signals
pulses_below : (nets : List ℕ) (acts : List Act) (net : ℕ) → is_pulse (act_on nets acts net) ≡ true → net < past_all nets
unfolding past_all
pulses_below [] acts net is = absurd cc
pulses_below (first ∷ nets) [] net is = absurd cc
pulses_below (first ∷ nets) (act ∷ acts) net is = first_or_later first (past_all nets) net act (act_on nets acts net) (first == net) refl (pulses_below nets acts net) is

rows_below : (nets : List ℕ) (before : ℕ → Tri) (vectors : List (List Act)) → PulseBelow (past_all nets) (vectors_in (rows_from nets before vectors))
rows_below nets before [] = tt
rows_below nets before (acts ∷ vectors) = (λ d is. pulses_below nets acts d is, rows_below nets (row_of nets before acts).vector.ports vectors)

-- from every start with low clocks there is a run over a pattern set, under any ports, where the nets have an order
pub ranked_run : (w : Netlist) (rank : ℕ → ℕ) (set : Patterns) (ports : Ports) (start : Now) → IsOrdered w rank → AreLow start.state → (turns : List Turn) × IsRun (logic_of w ports) (vectors_in (replayed_rows w set)) start turns
ranked_run w rank set ports start ordered low =
    runs_exist (logic_of w ports) rank (past_all (nets_of w set.signals)) (vectors_in (replayed_rows w set)) start (order_is_rank w ports rank ordered) low (rows_below (nets_of w set.signals) all_unknown set.vectors)

pub sets_run : (w : Netlist) (order : List ℕ) (set : Patterns) (ports : Ports) (start : Now) → IsNetlist w → IsOrder w order → AreLow start.state → (turns : List Turn) × IsRun (logic_of w ports) (vectors_in (replayed_rows w set)) start turns
sets_run w order set ports start sound ordered low = (let ranked = order_ranks w order sound ordered in ranked_run w ranked.0 set ports start ranked.1 low)
