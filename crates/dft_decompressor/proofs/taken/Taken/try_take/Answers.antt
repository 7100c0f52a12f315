use Rattle.std.proofs.Common.{◌≡◌, ◌∙◌, ◌++◌, ◌∷◌, [], ℕ, List, ap, subst}
use Rattle.std.specs.List.{list_all}
use Rattle.dft_decompressor.specs.Phases.{is_apart, is_balanced}
use Rattle.dft_decompressor.specs.StageSets.{are_apart, moves_of}
use Rattle.dft_decompressor.specs.Taken.{TakenSets, after_set}
use Rattle.dft_decompressor.proofs.PassLemmas.{apart_is, both_hold, not_apart}
use Rattle.dft_decompressor.proofs.taken.Taken.try_take.Goals as goal

pub returns-then-not-is_apart-clause-sets : goal.returns-then-not-is_apart-clause-sets
returns-then-not-is_apart-clause-sets c =
    let sets = c.self.inside.sets.items in
    let balanced : c.is_balanced.result ≡ is_balanced c.args.bound sets c.args.set = c.is_balanced.ensures ∙ (λ i. is_balanced c.args.bound (c.deref.ensures.value i) (c.as_slice.ensures i)) in
    let made = c.in_ok-moves.ensures ∙ (λ i. moves_of c.self.inside.stages (c.deref-2.ensures.value i) (c.as_slice-2.ensures i)) in
    let apart : c.is_apart.result ≡ is_apart c.self.inside.stages sets c.args.set =
    apart_is c.self.inside.stages c.self.inside.taps.items sets c.args.set c.in_ok-moves.moves c.self.inside.moves.items c.is_apart.result c.self.invariant.taps c.self.invariant.moves made
    (c.is_apart.ensures ∙ (λ i. list_all (λ other. are_apart (c.as_slice-3.ensures i) other) (c.deref-3.ensures.value i))) in
    subst (λ (t : TakenSets). t.sets ≡ after_set t.stages c.args.bound t.sets c.args.set) c.self.view_is
    (not_apart c.self.inside.stages c.args.bound sets c.args.set c.is_balanced.result c.is_apart.result balanced apart c.if-not-is_balanced.false c.if-not-is_apart.true)

pub returns-clause-sets : goal.returns-clause-sets
returns-clause-sets c =
    let sets = c.self.inside.sets.items in
    let balanced : c.is_balanced.result ≡ is_balanced c.args.bound sets c.args.set = c.is_balanced.ensures ∙ (λ i. is_balanced c.args.bound (c.deref.ensures.value i) (c.as_slice.ensures i)) in
    let made = c.in_ok-moves.ensures ∙ (λ i. moves_of c.self.inside.stages (c.deref-2.ensures.value i) (c.as_slice-2.ensures i)) in
    let apart : c.is_apart.result ≡ is_apart c.self.inside.stages sets c.args.set =
    apart_is c.self.inside.stages c.self.inside.taps.items sets c.args.set c.in_ok-moves.moves c.self.inside.moves.items c.is_apart.result c.self.invariant.taps c.self.invariant.moves made
    (c.is_apart.ensures ∙ (λ i. list_all (λ other. are_apart (c.as_slice-3.ensures i) other) (c.deref-3.ensures.value i))) in
    subst (λ (t : TakenSets). c.push_reserved.new.self.items ≡ after_set t.stages c.args.bound t.sets c.args.set) c.self.view_is
    (c.push_reserved.ensures.items ∙ ap (λ (l : List (List ℕ)). l ++ c.args.set ∷ []) c.in_ok-reserve.ensures.items
    ∙ both_hold c.self.inside.stages c.args.bound sets c.args.set c.is_balanced.result c.is_apart.result balanced apart c.if-not-is_balanced.false c.if-not-is_apart.false)
