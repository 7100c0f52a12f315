-- One flip-flop more is listed, unless it is left out.
use Rattle.std.proofs.Common.{ℕ, true, ◌≡◌, ◌<◌, ◌∙◌, ◌+◌, List, length, map, sym, subst, arith}
use Rattle.dft_registers.specs.declared.layout.Place.{Place}
use Rattle.dft_registers.specs.Layout.{Layout, place_at}
use Rattle.dft_registers.specs.Cells.{move_at, course}
use Rattle.dft_takings.specs.EntryTables.{entry_at}
use Rattle.dft_takings.specs.Takings.{is_left, IsLeft}
use Rattle.dft_takings.specs.declared.takings.Taking.{Taking}
use Rattle.dft_logic.specs.Circuit.{cell_of, cell_at}
use Rattle.dft_takings.proofs.TakingLemmas.{IsLaidAt, Taken, taken_left, taken_more, left_out}
use Rattle.dft_takings.proofs.takings.list_takings.Goals as goal
use Rattle.dft_takings.proofs.takings.list_takings.Goals.{then-not-is_left, else-not-is_left}

pub loop-place-preserved : goal.loop-place-preserved
loop-place-preserved c =
    let place : ℕ = c.loop-place.place in
    let here : place < length c.args.flops.now = omega (arith, c.loop-place-test.true, c.requires.flops) in
    let l : Layout = c.args.cells.now.layout in
    let at : c.place.result ≡ place_at l.places place = c.place.ensures.at in
    let left : c.is_left.result ≡ true → IsLeft (cell_at (map cell_of c.args.flops.now) place) (entry_at c.args.entries.now place) (course l c.args.moves.now place) = λ up.
    left_out c.args.flops.now c.args.entries.now l c.args.moves.now place _ _ c.is_idle-idle.result here c.loop-place-test.true c.requires.moves
    (subst (λ (p : Place). IsLaidAt l p place) at (record { rest = c.place.ensures.rest; within = c.place.ensures.within; here = c.place.ensures.here }))
    c.is_idle-idle.ensures (subst (λ (p : Place). is_left (move_at c.args.moves.now p.register) p.index c.is_idle-idle.result ≡ true) at (sym c.is_left.ensures ∙ up)) in
    let P : List Taking → Type 0 = λ l. Taken (cell_at (map cell_of c.args.flops.now)) c.args.entries.now (course c.args.cells.now.layout c.args.moves.now) l (place + 1) in
    elim c.if-not-is_left.branch [
      | then-not-is_left w ↦ rw w.takings-is (
        subst P (sym w.push_reserved.ensures.items) (taken_more _ c.args.entries.now _ c.loop-place.takings.items place _ c.loop-place-test.true c.loop-place.invariant.0),
        w.push_reserved.ensures.capacity ∙ c.loop-place.invariant.1,
      )
      | else-not-is_left w ↦ rw w.takings-is (
        taken_left _ c.args.entries.now _ c.loop-place.takings.items place (left w.if-not-is_left.false) c.loop-place.invariant.0,
        c.loop-place.invariant.1,
      )
    ]
