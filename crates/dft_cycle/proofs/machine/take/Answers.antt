-- One flip-flop more has its value.
use Rattle.std.proofs.Common.{ℕ, List, ◌<◌, ◌≡◌, ◌+◌, ◌∙◌, sym, ap, subst, length, map, get_or, arith}
use Rattle.std.specs.Prelude.{if◌then◌else◌}
use Rattle.std.proofs.lemmas.List.{get_or_default, length-set}
use Rattle.dft_base.specs.declared.tri.Tri.{Tri}
use Rattle.dft_base.specs.declared.tri.Tri.TheVariants.{Zero, Unknown}
use Rattle.dft_behavior.specs.Logic.{Cell}
use Rattle.dft_cycle.specs.Machine.{value_at}
use Rattle.dft_logic.specs.Circuit.{cell_of, cell_at}
use Rattle.dft_logic.proofs.Writings.{Written, write_more, cell_read}
use Rattle.dft_cycle.proofs.MachineLemmas.{changed_by}
use Rattle.dft_cycle.proofs.machine.take.Goals as goal

pub loop-place-preserved : goal.loop-place-preserved
loop-place-preserved c =
    let flops = c.args.flops.now in
    let pulsed = c.args.pulsed.now in
    let next = c.args.next.now in
    let start : List Tri = c.args.cells.now.values in
    let cells : List Tri = c.loop-place.cells.values in
    let place : ℕ = c.loop-place.place in
    let less : place < length flops = c.loop-place-test.true in
    let here : place < length cells = omega (arith, c.loop-place.invariant.1.1, c.requires.cells, less) in
    let live : place < length next = omega (arith, c.requires.next) in
    let new : ℕ → Tri → Tri = λ k before. if changed_by c.args.rising pulsed (cell_at (map cell_of flops) k) then value_at next k else before in
    let up : c.changes.result ≡ changed_by c.args.rising pulsed (cell_at (map cell_of flops) place) = c.changes.ensures ∙ ap (λ (k : Cell). changed_by c.args.rising pulsed k) (cell_read flops place _ less) in
    let found : get_or next place Zero ≡ value_at next place = get_or_default next place Zero Unknown live in
    let P : List Tri → Type 0 = λ l. Written start l new (place + 1) in (
      subst P (sym c.set.ensures.values) (write_more start cells new place c.taken.result here c.loop-place.invariant.0 (c.taken.ensures ∙ λ i. if up i then found i else c.at-old.ensures i)),
      (c.set.ensures.layout ∙ c.loop-place.invariant.1.0, ap (λ (l : List Tri). length l) c.set.ensures.values ∙ length-set cells place c.taken.result ∙ c.loop-place.invariant.1.1),
    )
