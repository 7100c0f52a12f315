-- The plans so far are for no clock.
use Rattle.std.proofs.Common.{◌≡◌, All, length}
use Rattle.dft_cycle.specs.Plans.{IsPlan}
use Rattle.dft_registers.specs.Layout.{Layout}
use Rattle.dft_cycle.proofs.preparing.plans.Given as goal

abbrev pub invariant-loop-place : goal.invariant-loop-place
invariant-loop-place l = ((layout : Layout) → All (IsPlan l.circuit l.clocks layout l.pins) l.plans.items) × (length l.plans.items ≡ l._place)
