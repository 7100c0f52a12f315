-- The named equations' ids are written in order, and the trial is what is left of the refused equation.
use Rattle.std.proofs.Common.{ℕ, List, ◌≡◌, ◌∙◌, ◌∷◌, ◌++◌, [], arith, ap, sym, length}
use Rattle.dft_base.specs.Solutions.{bit_at, ids_to, Equation, Contradicts, Certifies}
use Rattle.dft_gf2.specs.Rows.{kept_to, restored}
use Rattle.dft_gf2.proofs.Restorations.{kept_id, length_kept}
use Rattle.dft_gf2.proofs.Outcomes.{kept_fits}
use Rattle.dft_gf2.proofs.Certificates.{ids_taken, ids_passed, contradicts, certifies, if_refused}
use Rattle.dft_gf2.proofs.system.System.certificate.Goals as goal
use Rattle.dft_gf2.proofs.system.System.certificate.Goals.{then-names+in_ok-push, else-names}

pub id-requires : goal.id-requires
id-requires c =
    let fits = kept_fits _ _ _ _ c.self.invariant.echelon in
    rw c.self.invariant.echelon.wide.0 (omega (arith, fits, c.loop-place-test.true))

pub loop-place-preserved : goal.loop-place-preserved
loop-place-preserved c =
    elim c.if-names.branch [
      | then-names+in_ok-push w ↦
          ap (λ v. v.items) w.ids-is ∙ w.in_ok-push.ensures.items
          ∙ ids_taken _ (kept_to c.self.inside.columns c.self.inside.rows c.self.inside.kept) c.loop-place.place c.loop-place.ids.items w.id.result c.loop-place.invariant
          (sym c.names.ensures ∙ w.if-names.true) (w.id.ensures ∙ sym (kept_id _ _ _ _ c.loop-place-test.true))
      | else-names w ↦ ap (λ v. v.items) w.ids-is ∙ ids_passed _ _ c.loop-place.place c.loop-place.ids.items c.loop-place.invariant (sym c.names.ensures ∙ w.if-names.false)
    ]

pub returns-clause-stated : goal.returns-clause-stated
returns-clause-stated c =
    let kept : List Equation = kept_to c.self.inside.columns c.self.inside.rows c.self.inside.kept in
    let all : c.loop-place.place ≡ length kept = (let end = c.loop-place-test.false in let fits = c.loop-place.auto.place-end in omega arith) ∙ sym (length_kept _ _ c.self.inside.kept) in
    let named : c.push-2.new.self.items ≡ ids_to (length kept) (bit_at c.self.inside.trial.sums) kept ++ c.self.inside.trial.id ∷ [] =
    c.in_ok-push-2.ensures.items ∙ ap (λ (ids : List ℕ). ids ++ c.self.inside.trial.id ∷ []) (c.loop-place.invariant ∙ ap (λ (m : ℕ). ids_to m (bit_at c.self.inside.trial.sums) kept) all) in
    rw (← c.self.view_is) (if_refused (λ e. Contradicts c.self.inside.columns kept e c.push-2.new.self.items) c.self.inside.refused (restored c.self.inside.columns kept c.self.inside.trial)
    (λ is. contradicts _ kept c.self.inside.trial c.push-2.new.self.items (c.self.invariant.zero is).0 (c.self.invariant.zero is).1 named))

pub returns-clause-sums : goal.returns-clause-sums
returns-clause-sums c =
    let kept : List Equation = kept_to c.self.inside.columns c.self.inside.rows c.self.inside.kept in
    let all : c.loop-place.place ≡ length kept = (let end = c.loop-place-test.false in let fits = c.loop-place.auto.place-end in omega arith) ∙ sym (length_kept _ _ c.self.inside.kept) in
    let named : c.push-2.new.self.items ≡ ids_to (length kept) (bit_at c.self.inside.trial.sums) kept ++ c.self.inside.trial.id ∷ [] =
    c.in_ok-push-2.ensures.items ∙ ap (λ (ids : List ℕ). ids ++ c.self.inside.trial.id ∷ []) (c.loop-place.invariant ∙ ap (λ (m : ℕ). ids_to m (bit_at c.self.inside.trial.sums) kept) all) in
    rw (← c.self.view_is) (if_refused (λ e. Certifies c.self.inside.columns (kept ++ e ∷ []) c.push-2.new.self.items) c.self.inside.refused (restored c.self.inside.columns kept c.self.inside.trial)
    (λ is. certifies _ kept c.self.inside.trial c.push-2.new.self.items (c.self.invariant.zero is).0 (c.self.invariant.zero is).1 named))
