-- Lines that are passed one by one.
use Rattle.std.proofs.Common.{◌≡◌, ◌<◌, ◌-◌, ℕ, zero, suc, List, ap, arith}
use native.Mathlib.Numerals.{unary_clauses}
use Rattle.std.specs.Prelude.{Some, option_and_then}
use Rattle.dft_explain.specs.Texts.{behind_line, behind_lines}

-- behind one line, one line less is to be passed
pub one_less : (n : ℕ) (text rest : List ℕ) → 0 < n → Some rest ≡ behind_line text → behind_lines (n - 1) rest ≡ behind_lines n text
one_less zero text rest p e = absurd (omega (arith, p))
one_less (suc n) text rest p e = simp unary_clauses (ap (option_and_then (behind_lines n)) e)
