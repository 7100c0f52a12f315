-- The view of the falls of no clock is a strobe.
use Rattle.std.proofs.Common.{ℕ, Bool, true, false, List, ◌≡◌, ◌==◌, refl}
use Rattle.std.specs.Prelude.{if◌then◌else◌}
use Rattle.dft_base.specs.declared.tri.Tri.{Tri}
use Rattle.dft_base.specs.declared.tri.Tri.TheVariants.{Zero}
use Rattle.dft_behavior.specs.Logic.{Cell}
use Rattle.dft_behavior.specs.Settled.{value_from, is_wire}
use Rattle.dft_abstract.specs.Cycle.{Pulse, lockup_shown}
use Rattle.dft_logic.specs.Values.{value_at}
use Rattle.dft_logic.specs.Circuit.{leaves_from}
use Rattle.dft_takings.specs.Views.{base_of}
use Rattle.dft_takings.specs.Needs.{strobe_from}

-- the falls of no clock
abbrev pub no_falls : (ports old : ℕ → Tri) → Pulse
no_falls ports old = record { rising = false; ports = ports; pulsed = λ e. false; old = old }

pub strobe_holds : (own high : Bool) (old here there : Tri) → lockup_shown false false own high old here there ≡ (if high then old else here)
strobe_holds own true old here there = refl
strobe_holds own false old here there = refl

strobe_lockup : (own high : Bool) (old here there : Tri) → lockup_shown false false own high old here there ≡ (if is_wire high false then here else old)
strobe_lockup own true old here there = refl
strobe_lockup own false old here there = refl

pub strobe_leaves : (cells : List Cell) (ports old : ℕ → Tri) (poss held : List Tri) (d : ℕ) (values : ℕ → Tri) → leaves_from (base_of cells (no_falls ports old) poss held d) values ≡ strobe_from ports old values
strobe_leaves cells ports old poss held d values = λ t. record {
  ports = ports;
  clocks = λ e. Zero;
  flops = old;
  lockups = λ c e high source. strobe_lockup (e == d) high (old c) (value_from values source) (value_at held c) t;
}
