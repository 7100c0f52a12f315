-- What a settled net has for its value, and meanings that are no lock-ups.
use Rattle.std.proofs.Common.{ℕ, ◌≡◌, ap, ◌∙◌, Bool, Option, None, Some}
use Rattle.dft_base.specs.declared.tri.Tri.{Tri}
use Rattle.dft_behavior.specs.Logic.{Logic, Meaning, Cell, Lockup, flop_meaning}
use Rattle.dft_behavior.specs.Settled.{TriSources, value_given, IsTriSettled}
use Rattle.dft_netlist.specs.Drivers.{Source}

-- a net has the value that its meaning gives it
pub value_at : (l : Logic) (s : TriSources) (w : ℕ → Tri) (net : ℕ) (m : Meaning) → IsTriSettled l s w → l.net net ≡ m → w net ≡ value_given s w net m
value_at l s w net m settled is = settled net ∙ ap (value_given s w net) is

pub no_flop : (i : ℕ) (inverted : Bool) (cell : Option Cell) (c e : ℕ) (high : Bool) (source : Source) → flop_meaning i inverted cell ≡ Lockup c e high source → ⊥
no_flop i inverted None c e high source h = cc
no_flop i inverted (Some cell) c e high source h = cc
