-- One flip-flop more has its value.
use Rattle.std.proofs.Common.{ℕ, List, ◌≡◌, ◌<◌, ◌+◌, ◌∙◌, refl, sym, ap, subst, length, get_or, arith}
use mathlib.Core.List.{map-id}
use Rattle.std.proofs.lemmas.List.{length-set, get_or_default}
use Rattle.dft_base.specs.declared.tri.Tri.{Tri}
use Rattle.dft_base.specs.declared.tri.Tri.TheVariants.{Unknown}
use Rattle.dft_registers.specs.declared.moves.Move.{Move}
use Rattle.dft_registers.specs.Cells.{value_at, course, CanMove, IsShifted}
use Rattle.dft_takings.specs.declared.takings.Taking.{Taking}
use Rattle.dft_takings.specs.declared.entries.Entry.TheVariants.{Keeps}
use Rattle.dft_takings.specs.Takings.{taking_at, ArePut}
use Rattle.dft_takings.proofs.TakingLemmas.{put_none, put_more}
use Rattle.dft_takings.proofs.takings.put_all.Goals as goal

live : (takings : List Taking) (at : ℕ) (d : Taking) (count : ℕ) → at < length takings → (taking_at takings at).place < count → (get_or takings at d).place < count
live takings at d count less is = subst (λ (t : Taking). t.place < count) (sym (get_or_default takings at d (record { place = 0; entry = Keeps }) less)) is

pub set-requires : goal.set-requires
set-requires c =
    let at : ℕ = c.loop-at.at in
    let count : length c.loop-at.cells.values ≡ length c.args.cells.now.values = c.loop-at.invariant.1.1 in
    live c.args.takings.now at _ _ c.loop-at-test.true (let less = c.requires.live at c.loop-at-test.true in omega (arith, count, less))

pub shift-requires : goal.shift-requires
shift-requires c = subst (λ (m : List Move). CanMove c.args.cells.now.layout m) (sym (map-id c.args.moves.now)) c.requires.can

pub loop-at-init : goal.loop-at-init
loop-at-init c = (put_none c.args.takings.now (value_at c.args.row.now) c.args.cells.now.layout c.args.moves.now c.args.cells.now c.shift.new.self refl (subst (λ (m : List Move). IsShifted Unknown m c.args.cells.now c.shift.new.self) (map-id c.args.moves.now) c.shift.ensures), (c.shift.ensures.layout, c.shift.ensures.count))

pub loop-at-preserved : goal.loop-at-preserved
loop-at-preserved c =
    let at : ℕ = c.loop-at.at in
    let row : List Tri = c.args.row.now in
    let old : List Tri = c.loop-at.cells.values in
    let count : length old ≡ length c.args.cells.now.values = c.loop-at.invariant.1.1 in
    let there = live c.args.takings.now at _ (length old) c.loop-at-test.true (let less = c.requires.live at c.loop-at-test.true in omega (arith, count, less)) in
    let P : List Tri → Type 0 = λ l. ArePut c.args.takings.now (at + 1) (value_at row) (course c.args.cells.now.layout c.args.moves.now) c.args.cells.now.values l in (
      subst P (sym c.set.ensures.values)
          (put_more c.args.takings.now (value_at row) _ c.args.cells.now.values old at _ _ c.loop-at-test.true there (get_or_default row at _ _ (omega (arith, c.requires.row, c.loop-at-test.true))) c.loop-at.invariant.0),
      (c.set.ensures.layout ∙ c.loop-at.invariant.1.0, ap (λ (l : List Tri). length l) c.set.ensures.values ∙ length-set old _ _ ∙ count),
    )
