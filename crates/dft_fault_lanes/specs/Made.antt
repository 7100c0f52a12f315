-- What a plan keeps: for its clocks and for its steer, over these bounds of nets and where these cells lie.
use Rattle.std.specs.Prelude.{ℕ, true, false, ◌≡◌, ◌≤◌, List, [], Option, length, take}
use Rattle.std.specs.Vec.{vec_capacity}
use Rattle.dft_netlist.specs.declared.ids.NetId.{NetId}
use Rattle.dft_netlist.specs.Orders.{Has, numbers_of}
use Rattle.dft_registers.specs.Layout.{Layout}
use Rattle.dft_logic.specs.Circuit.{Circuit, logic_at, flag_at, AreOrdered}
use Rattle.dft_takings.specs.Needs.{HasAll, IsStrobeClosed}
use Rattle.dft_takings.specs.Shows.{IsShownOn, still_needs}
use Rattle.dft_takings.specs.ShownTables.{shown_at, edges_of}
use Rattle.dft_fault_laws.specs.Rounds.{every}
use Rattle.dft_fault_lanes.specs.declared.clamps.Clamp.{Clamp}
use Rattle.dft_fault_lanes.specs.declared.plans.Plan.{Plan}
use Rattle.dft_fault_lanes.specs.Lanes.{flop_at, is_changed}
use Rattle.dft_fault_lanes.specs.Plans.{needs_of, HasReadsOf, ArePlaces, pulse_on}
use Rattle.dft_fault_lanes.specs.Moves.{is_carried, AreMoves, enable_needs, HasForces}
use Rattle.dft_fault_lanes.specs.Idle.{is_left}

-- A plan is of its clocks: what nets show as they rise and fall; a set of nets that is closed under reading and listed in order, which has the steer's net, all scan enables, and what the cells read that are not carried;
-- the registers that move as the clocks rise; and the other cells that take a value, but for idle ones.
pub record IsPlan (x : Circuit) (clamps : List (Option Clamp)) (l : Layout) (signals : List NetId) (p : Plan) : Type 0 where
  pub pulsing : (net : ℕ) → flag_at p.pulsed.items net ≡ pulse_on (numbers_of signals) p.pulses.items net
  pub rises : IsShownOn (logic_at x) (edges_of true (flag_at p.pulsed.items)) every (shown_at p.rises.items)
  pub falls : IsShownOn (logic_at x) (edges_of false (flag_at p.pulsed.items)) every (shown_at p.falls.items)
  pub closed : IsStrobeClosed (logic_at x) (flag_at p.marked.items)
  pub ordered : AreOrdered x.ops [] (numbers_of (take p.count p.list.items))
  pub listed : (k : ℕ) → flag_at p.marked.items k ≡ true → Has (numbers_of (take p.count p.list.items)) k
  pub room : p.count ≤ length p.list.items
  pub steered : needs_of (length x.ops) p.marked.items p.steer.net.0 ≡ true
  pub enables : (c : ℕ) → HasAll (needs_of (length x.ops) p.marked.items) (enable_needs (flop_at x.flops c))
  pub reads : (c : ℕ) → is_carried l p.moves.items c ≡ false → HasReadsOf (needs_of (length x.ops) p.marked.items) p.steer (flop_at x.flops c)
  pub rests : flag_at p.moves.items 0 ≡ false
  pub moving : AreMoves x.ops clamps x.flops p.steer p.pulsed.items l p.moves.items
  pub taking : ArePlaces x.flops true p.pulsed.items (is_left l p.moves.items x.flops) p.taking.items
  pub falling : ArePlaces x.flops false p.pulsed.items (is_left l [] x.flops) p.falling.items
  pub steady : p.steady ≡ true → (c : ℕ) → is_changed (flop_at x.flops c) true p.pulsed.items ≡ true →
      HasReadsOf (still_needs every (shown_at p.rises.items) (flop_at x.flops c).domain) p.steer (flop_at x.flops c)

-- a plan has room for the nets and the cells of a circuit, and for so many signals, and lists the ports of all resets and sets
pub record HasRoom (x : Circuit) (signals : ℕ) (p : Plan) : Type 0 where
  pub pulses : length p.pulses.items ≡ signals
  pub pulsed : length p.pulsed.items ≡ length x.ops
  pub rises : length p.rises.items ≡ length x.ops
  pub falls : length p.falls.items ≡ length x.ops
  pub marked : length p.marked.items ≡ length x.ops
  pub list : length p.list.items ≡ length x.ops
  pub taking : length x.flops ≤ vec_capacity p.taking
  pub falling : length x.flops ≤ vec_capacity p.falling
  pub forces : HasForces x.flops (numbers_of p.forces.items)
