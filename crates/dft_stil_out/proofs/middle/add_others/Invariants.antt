use Rattle.std.proofs.Common.{◌≡◌, ◌++◌, ◌∷◌, flat_map, drop}
use Rattle.dft_stil_out.specs.Written as form
use Rattle.dft_stil_out.proofs.middle.add_others.Given as goal

abbrev pub invariant-loop-signal : goal.invariant-loop-signal
invariant-loop-signal l = l.out.items ++ flat_map (λ s. 43 ∷ form.quoted s) (drop l.signal-index l.signals) ≡ l.fn.out.items ++ flat_map (λ s. 43 ∷ form.quoted s) l.signals
