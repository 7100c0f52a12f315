-- The values of nets at a strobe, from all nets or from those that they are settled from.
use Rattle.std.proofs.Common.{ℕ, Bool, true, false, List, ◌≡◌, ◌<◌, length, map}
use Rattle.dft_base.specs.declared.tri.Tri.{Tri}
use Rattle.dft_netlist.specs.declared.ids.NetId.{NetId}
use Rattle.dft_behavior.specs.Logic.{reads}
use Rattle.dft_netlist.specs.Orders.{Has, numbers_of}
use Rattle.dft_takings.specs.Needs.{IsStrobeClosed, IsStrobeOn, IsStrobe, AreSeen}
use Rattle.dft_logic.specs.Values.{value_at}
use Rattle.dft_logic.specs.Circuit.{Circuit, logic_at, flag_at, IsCircuit}
use Rattle.dft_takings.specs.Ranks.{rank_of}
use Rattle.dft_takings.proofs.CircuitRanks.{circuit_ranked}
use Rattle.dft_takings.proofs.NeededLemmas.{look_of_needed}
use Rattle.dft_takings.proofs.PlanLemmas.{needs_of, has_needs, needs_closed, needs_on}
use Rattle.dft_takings.proofs.EntryLemmas.{every}

pub look_of_all : (x : Circuit) (ports flops : ℕ → Tri) (values : List Tri) (nets : List NetId) → IsCircuit x → IsStrobe (logic_at x) ports flops (value_at values) →
    AreSeen (logic_at x) ports flops nets (map (λ net. value_at values net.0) nets)
look_of_all x ports flops values nets is settled =
    look_of_needed (logic_at x) (rank_of x) ports flops (λ net. true) (value_at values) nets (circuit_ranked x is) (λ net up. every (reads ((logic_at x).net net))) (λ net up. settled net) (every (numbers_of nets))

pub look_of_marked : (x : Circuit) (ports flops : ℕ → Tri) (marked : List Bool) (values : List Tri) (nets : List NetId) → IsCircuit x → length values ≡ length x.ops → IsStrobeClosed (logic_at x) (flag_at marked) →
    IsStrobeOn (logic_at x) ports flops (flag_at marked) (value_at values) → ((k : ℕ) → k < length x.ops → Has (numbers_of nets) k → flag_at marked k ≡ true) →
    AreSeen (logic_at x) ports flops nets (map (λ net. value_at values net.0) nets)
look_of_marked x ports flops marked values nets is len closed settled all =
    look_of_needed (logic_at x) (rank_of x) ports flops (needs_of (length x.ops) marked) (value_at values) nets (circuit_ranked x is) (needs_closed x marked closed) (needs_on x (λ e. false) ports flops marked values len settled)
    (has_needs (length x.ops) marked (numbers_of nets) all)
