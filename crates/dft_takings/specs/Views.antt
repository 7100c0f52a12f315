-- What the nets of a circuit are settled from in the views of a phase, and before its edges.
use Rattle.std.specs.Prelude.{ℕ, Bool, ◌≡◌, ◌==◌, ◌&&◌, List, map, if◌then◌else◌}
use Rattle.dft_base.specs.declared.tri.Tri.{Tri}
use Rattle.dft_base.specs.Tri.{known}
use Rattle.dft_behavior.specs.Logic.{Cell}
use Rattle.dft_behavior.specs.Runs.{takes}
use Rattle.dft_behavior.specs.Settled.{is_wire, value_given}
use Rattle.dft_abstract.specs.Cycle.{level_before, clock_value, lockup_shown}
use Rattle.dft_abstract.specs.Cycle as Cycle
use Rattle.dft_logic.specs.Values.{value_at}
use Rattle.dft_logic.specs.Circuit.{Circuit, Supply, leaves_from, meaning, op_at, cell_of, cell_at, flag_at}
use Rattle.dft_takings.specs.declared.settling.Pulse.{Pulse}
use Rattle.dft_takings.specs.declared.settling.View.{View}

-- a phase of a pulse, from values by net and by instance
abbrev pub pulse_at : Pulse → Cycle.Pulse
pulse_at p = record { rising = p.rising; ports = value_at p.ports.now; pulsed = flag_at p.pulsed.now; old = value_at p.old.now.values }

-- whether a cell takes a value in a phase
abbrev pub changed : Cell → Cycle.Pulse → Bool
changed cell p = p.pulsed cell.domain && takes p.rising cell.falling

-- What the view of a domain is settled from. A lock-up that takes its bit in the phase shows what it is held at, by instance.
abbrev pub base_of : List Cell → Cycle.Pulse → (poss held : List Tri) → (domain : ℕ) → Supply
base_of cells p poss held d = record {
  ports = p.ports;
  clocks = clock_value p d;
  flops = λ c. if changed (cell_at cells c) p then (if (cell_at cells c).domain == d then p.old c else value_at poss c) else p.old c;
  lockups = λ c e high input. lockup_shown p.rising (p.pulsed e) (e == d) high (p.old c) input (value_at held c);
}

-- what all is settled from before the edges of a phase
abbrev pub before_base : Cycle.Pulse → Supply
before_base p = record { ports = p.ports; clocks = λ e. known (level_before p e); flops = p.old; lockups = λ c e high input. if is_wire high (level_before p e) then input else p.old c }

abbrev pub view_base : (cells : List Cell) → View → Supply
view_base cells v = base_of cells (pulse_at v.pulse) v.poss.now v.held.now v.domain.0

-- the net has its driver's value in the view of a domain
abbrev pub GivenIn : Circuit → Cycle.Pulse → (poss held : List Tri) → (domain : ℕ) → (values : List Tri) → ℕ → Type 0
GivenIn x p poss held d values k =
    value_at values k ≡ value_given (leaves_from (base_of (map cell_of x.flops) p poss held d) (value_at values)) (value_at values) k (meaning (op_at x.ops k))

-- the same where the view is that of this domain, and in the view itself
abbrev pub IsGivenIn : Circuit → View → (domain : ℕ) → (values : List Tri) → ℕ → Type 0
IsGivenIn x v d values k = GivenIn x (pulse_at v.pulse) v.poss.now v.held.now d values k

abbrev pub IsGiven : Circuit → View → (values : List Tri) → ℕ → Type 0
IsGiven x v values k = IsGivenIn x v v.domain.0 values k

-- all nets have the values that they have from some sources
pub record IsReady (x : Circuit) (values : List Tri) : Type 0 where
  pub base : Supply
  pub given : (k : ℕ) → value_at values k ≡ value_given (leaves_from base (value_at values)) (value_at values) k (meaning (op_at x.ops k))
