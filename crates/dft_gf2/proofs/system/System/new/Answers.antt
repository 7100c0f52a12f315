-- No row is kept.
use Rattle.std.proofs.Common.{◌≡◌, rules, refl, replicate, None, List, Option, ℕ, subst, sym}
use Rattle.dft_gf2.specs.Rows.{kept_to, IsEchelon}
use Rattle.dft_gf2.proofs.Stated.{empty_echelon}
use Rattle.dft_gf2.proofs.system.System.new.Goals as goal

pub invariant_of-result : goal.invariant_of-result
invariant_of-result c =
    let none : List (Option ℕ) = replicate c.args.columns None in
    let places : c.in_ok-vec.field-0.items ≡ none = search rules in
    record {
      echelon = subst (λ (l : List (Option ℕ)). IsEchelon c.args.columns c.in_ok-blank.field-0 l 0) (sym places) (empty_echelon c.args.columns c.in_ok-blank.field-0 c.in_ok-blank.ensures);
      trial = c.in_ok-blank-2.ensures;
      zero = λ is. absurd cc;
    }

pub returns : goal.returns
unfolding kept_to
returns c = refl
