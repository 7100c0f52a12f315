-- One flip-flop more is joined.
use Rattle.std.proofs.Common.{ℕ, Bool, ◌<◌, ◌≡◌, ◌∙◌, ap, sym, subst, length, map, get_or, slice_set, arith}
use Rattle.std.proofs.lemmas.List.{get_or_default}
use Rattle.dft_base.specs.declared.tri.Tri.{Tri}
use Rattle.dft_base.specs.declared.tri.Tri.TheVariants.{Zero, Unknown}
use Rattle.dft_behavior.specs.Logic.{Cell}
use Rattle.dft_cycle.specs.Machine.{value_at}
use Rattle.dft_logic.specs.Circuit.{cell_of, cell_at}
use Rattle.dft_cycle.specs.Views.{raised_by}
use Rattle.dft_logic.proofs.Writings.{write_read, cell_read}
use Rattle.dft_cycle.proofs.Risings.{Raised, raise_step, or_true, or_false}
use Rattle.dft_cycle.proofs.MachineLemmas.{changed_by}
use Rattle.dft_cycle.proofs.rounds.raise.Goals as goal
use Rattle.dft_cycle.proofs.rounds.raise.Goals.{then-changed, else-changed}

pub loop-place-preserved : goal.loop-place-preserved
loop-place-preserved c =
    let flops = c.args.flops.now in
    let pulsed = c.args.pulsed.now in
    let next = c.args.next.now in
    let poss = c.loop-place.poss in
    let place : ℕ = c.loop-place.place in
    let less : place < length flops = c.loop-place-test.true in
    let here : place < length poss = omega (arith, c.requires.poss) in
    let live : place < length next = omega (arith, c.requires.next) in
    let old : Tri = get_or poss place Zero in
    let up : c.changes.result ≡ changed_by c.args.rising pulsed (cell_at (map cell_of flops) place) = c.changes.ensures ∙ ap (λ (k : Cell). changed_by c.args.rising pulsed k) (cell_read flops place _ less) in
    let taken : get_or next place Zero ≡ value_at next place = get_or_default next place Zero Unknown live in
    let P : Bool → Type 0 = λ b. Raised c.args.poss.now (slice_set poss place c.raised-value.result) b in
    let raised = raise_step c.args.poss.now poss place c.changes.result (get_or next place Zero) c.raised-value.result c.loop-place.changed c.differ-moved.result here c.loop-place.invariant.raised
    c.raised-value.ensures c.differ-moved.ensures.same c.differ-moved.ensures.other in
    record {
      written = write_read c.args.poss.now poss (λ k before. raised_by (changed_by c.args.rising pulsed (cell_at (map cell_of flops) k)) (value_at next k) before) place c.raised-value.result
          here c.loop-place.invariant.written (c.raised-value.ensures ∙ λ i. raised_by (up i) (taken i) old);
      raised = elim c.if-changed.branch [
        | then-changed w ↦ subst P (or_true c.loop-place.changed c.differ-moved.result w.if-changed.true ∙ sym w.changed-is) raised
        | else-changed w ↦ subst P (or_false c.loop-place.changed c.differ-moved.result w.if-changed.false ∙ sym w.changed-is) raised
      ];
    }
