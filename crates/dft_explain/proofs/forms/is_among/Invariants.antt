use Rattle.std.proofs.Common.{◌≡◌, drop}
use Rattle.std.specs.Prelude.{map}
use Rattle.dft_explain.specs.Faults as spec
use Rattle.dft_explain.proofs.forms.is_among.Given as goal

-- the texts that are left decide
abbrev pub invariant-loop-it : goal.invariant-loop-it
invariant-loop-it l = spec.is_among l.text (map (λ it. it.now) (drop l.it-index l.texts)) ≡ spec.is_among l.text (map (λ it. it.now) l.texts)
