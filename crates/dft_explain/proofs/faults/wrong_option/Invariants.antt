use Rattle.std.proofs.Common.{◌≡◌, [], length}
use Rattle.std.specs.Prelude.{map, string_bytes}
use Rattle.dft_explain.specs.Faults as spec
use Rattle.dft_explain.specs.CodeFaults.{form_seen}
use Rattle.dft_explain.proofs.faults.wrong_option.Given as goal

-- the words that are left decide, behind the names so far
abbrev pub invariant-loop-rest : goal.invariant-loop-rest
invariant-loop-rest l =
    spec.wrong_option (form_seen l.form) (map (λ name. name.now) l.before.items) (map string_bytes l.rest)
    ≡ spec.wrong_option (form_seen l.form) [] (map string_bytes l.words)

abbrev pub decreases-loop-rest : goal.decreases-loop-rest
decreases-loop-rest l = length l.rest
