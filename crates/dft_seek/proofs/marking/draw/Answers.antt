-- One net more.
use Rattle.std.proofs.Common.{◌-◌, ◌≡◌, ℕ, Bool, drop, refl, subst, arith}
use Rattle.dft_netlist.specs.Orders.{numbers_of}
use Rattle.dft_seek.specs.Marks.{Draws, steps_at}
use Rattle.dft_seek.proofs.MarkLemmas.{draws_back, draws_end, or_else, or_then}
use Rattle.dft_seek.proofs.marking.draw.Goals as goal

pub loop-place-init : goal.loop-place-init
loop-place-init c = draws_end (steps_at c.args.paths.now.steps.now) c.args.paths.now.order.now _ c.args.marked.now (omega arith)

pub loop-place-preserved-then-any : goal.loop-place-preserved-then-any
loop-place-preserved-then-any c =
    let p = c.args.paths.now in
    let P : Bool → Type 0 = λ b. Draws (steps_at p.steps.now) (numbers_of (drop (c.loop-place.place - 1) p.order.now)) c.args.marked.now c.draw_from-fresh.new.marked b in
    let more = draws_back (steps_at p.steps.now) p.order.now c.loop-place.place (record { 0 = 0 }) c.args.marked.now c.loop-place.marked c.draw_from-fresh.new.marked c.loop-place.any c.draw_from-fresh.result (omega (arith, c.loop-place-test.true))
    (omega (arith, c.loop-place.auto.place)) c.loop-place.invariant c.draw_from-fresh.ensures in
    subst P (or_then c.loop-place.any c.draw_from-fresh.result c.loop-place.any c.if-any.true c.if-any.true) more

pub loop-place-preserved : goal.loop-place-preserved
loop-place-preserved c =
    let p = c.args.paths.now in
    let P : Bool → Type 0 = λ b. Draws (steps_at p.steps.now) (numbers_of (drop (c.loop-place.place - 1) p.order.now)) c.args.marked.now c.draw_from-fresh.new.marked b in
    let more = draws_back (steps_at p.steps.now) p.order.now c.loop-place.place (record { 0 = 0 }) c.args.marked.now c.loop-place.marked c.draw_from-fresh.new.marked c.loop-place.any c.draw_from-fresh.result (omega (arith, c.loop-place-test.true))
    (omega (arith, c.loop-place.auto.place)) c.loop-place.invariant c.draw_from-fresh.ensures in
    subst P (or_else c.loop-place.any c.draw_from-fresh.result c.draw_from-fresh.result c.if-any.false refl) more

pub returns : goal.returns
returns c =
    let p = c.args.paths.now in
    let done : c.loop-place.place ≡ 0 = omega (arith, c.loop-place-test.false) in
    subst (λ (j : ℕ). Draws (steps_at p.steps.now) (numbers_of (drop j p.order.now)) c.args.marked.now c.loop-place.marked c.loop-place.any) done c.loop-place.invariant
