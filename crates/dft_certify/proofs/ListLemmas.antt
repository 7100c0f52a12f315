-- Variables, entries and lines, one by one.
use Rattle.std.proofs.Common.{suc, ◌≡◌, Bool, false, List, [], ◌∷◌, length, refl, sym, ap, ◌∙◌}
use Rattle.std.specs.Prelude.{◌&&◌}
use Rattle.dft_base.proofs.SumLemmas.{and_false}
use Rattle.dft_report.specs.declared.report.Variable.{Variable}
use Rattle.dft_certify.specs.Certifying.{same_variable, same_variables}

-- lists of two lengths are not the same
pub lengths_differ : (a b : List Variable) → (length a ≡ length b → ⊥) → false ≡ same_variables a b
lengths_differ [] [] apart = absurd (apart refl)
lengths_differ [] (b ∷ others) apart = refl
lengths_differ (a ∷ more) [] apart = refl
lengths_differ (a ∷ more) (b ∷ others) apart = sym (and_false (same_variable a b)) ∙ ap (λ (t : Bool). same_variable a b && t) (lengths_differ more others (λ same. apart (ap suc same)))
