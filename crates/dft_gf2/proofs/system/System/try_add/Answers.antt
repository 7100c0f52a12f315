-- The trial stands for the equation, and the outcome follows from what is left of it.
use Rattle.std.proofs.Common.{ℕ, List, Option, Some, ◌≡◌, ◌∙◌, ◌+◌, None, ap, arith, length, rules}
use Rattle.std.specs.Prelude.{slice_set, if◌then◌else◌}
use Rattle.std.specs.Vec.{with_items}
use Rattle.std.proofs.lemmas.List.{with_items_is}
use Rattle.dft_lanes.specs.Rows.{bits_of}
use Rattle.dft_lanes.proofs.RowLemmas.{length-bits_of}
use Rattle.dft_gf2.specs.Rows.{IsNew, IsReduced, IsZero, restored, with_own, kept_to, IsEchelon}
use Rattle.dft_gf2.proofs.Outcomes.{Stands, stands_words, room, echelon_more, own_wide, told_kept, told_implied, told_conflict, are_led, name_earlier, kept_after}
use Rattle.dft_gf2.proofs.Restorations.{restored_is}
use Rattle.dft_gf2.proofs.system.System.try_add.Goals as goal
use Rattle.dft_gf2.proofs.system.System.try_add.Goals.{then-self, else-self}

pub reduce-requires-clause-led : goal.reduce-requires-clause-led
reduce-requires-clause-led c = rw c.deref.ensures.value (are_led _ _ _ _ c.self.invariant.echelon)

pub reduce-requires-clause-named : goal.reduce-requires-clause-named
reduce-requires-clause-named c = rw c.deref.ensures.value (name_earlier _ _ _ _ c.self.invariant.echelon)

pub reduce-requires-clause-wide : goal.reduce-requires-clause-wide
reduce-requires-clause-wide c =
    rw (c.deref.ensures.value, c.self.invariant.echelon.columns) (
      ap length c.start.ensures.set ∙ length-bits_of (length c.self.inside.trial.set) c.args.row.now ∙ c.self.invariant.trial.0,
      c.start.ensures.sums_size ∙ c.self.invariant.trial.1,
    )

pub invariant_of-self-in-None : goal.invariant_of-self-in-None
invariant_of-self-in-None c =
    let reduced : IsReduced c.self.inside.rows c.self.inside.row_of.items c.start.new.self c.reduce.new.trial = rw c.deref.ensures.value at c.in-None.ensures.reduced in
    let stood : Stands c.self.inside.columns c.self.inside.rows c.self.inside.kept (bits_of c.self.inside.columns c.args.row.now) c.args.bit c.args.id c.reduce.new.trial =
    stands_words _ _ _ _ c.args.row.now c.args.bit c.args.id _ _ _ c.self.invariant.echelon c.self.invariant.trial c.start.ensures reduced in
    record { echelon = c.self.invariant.echelon; trial = stood.wide; zero = λ is. (c.in-None.ensures.end, is) }

pub keep-requires-clause-place : goal.keep-requires-clause-place
keep-requires-clause-place c =
    let new : IsNew c.self.inside.row_of.items c.reduce.new.trial c.in-Some.column = rw c.deref.ensures.value at c.in-Some.ensures.end in
    rw c.self.invariant.echelon.wide.0 (room _ _ _ _ _ c.reduce.new.trial c.self.invariant.echelon new)

pub keep-requires-clause-sums : goal.keep-requires-clause-sums
keep-requires-clause-sums c =
    let new : IsNew c.self.inside.row_of.items c.reduce.new.trial c.in-Some.column = rw c.deref.ensures.value at c.in-Some.ensures.end in
    let reduced : IsReduced c.self.inside.rows c.self.inside.row_of.items c.start.new.self c.reduce.new.trial = rw c.deref.ensures.value at c.in-Some.ensures.reduced in
    let size : length (bits_of c.self.inside.columns c.args.row.now) ≡ c.self.inside.columns = length-bits_of c.self.inside.columns c.args.row.now in
    let stood : Stands c.self.inside.columns c.self.inside.rows c.self.inside.kept (bits_of c.self.inside.columns c.args.row.now) c.args.bit c.args.id c.reduce.new.trial =
    stands_words _ _ _ _ c.args.row.now c.args.bit c.args.id _ _ _ c.self.invariant.echelon c.self.invariant.trial c.start.ensures reduced in
    λ j above. stood.later j (omega arith)

pub keep-requires-clause-wide : goal.keep-requires-clause-wide
keep-requires-clause-wide c =
    let reduced : IsReduced c.self.inside.rows c.self.inside.row_of.items c.start.new.self c.reduce.new.trial = rw c.deref.ensures.value at c.in-Some.ensures.reduced in
    let stood : Stands c.self.inside.columns c.self.inside.rows c.self.inside.kept (bits_of c.self.inside.columns c.args.row.now) c.args.bit c.args.id c.reduce.new.trial =
    stands_words _ _ _ _ c.args.row.now c.args.bit c.args.id _ _ _ c.self.invariant.echelon c.self.invariant.trial c.start.ensures reduced in
    rw c.self.invariant.echelon.wide.0 stood.wide

pub invariant_of-self : goal.invariant_of-self
invariant_of-self c =
    let new : IsNew c.self.inside.row_of.items c.reduce.new.trial c.in-Some.column = rw c.deref.ensures.value at c.in-Some.ensures.end in
    let reduced : IsReduced c.self.inside.rows c.self.inside.row_of.items c.start.new.self c.reduce.new.trial = rw c.deref.ensures.value at c.in-Some.ensures.reduced in
    let size : length (bits_of c.self.inside.columns c.args.row.now) ≡ c.self.inside.columns = length-bits_of c.self.inside.columns c.args.row.now in
    let stood : Stands c.self.inside.columns c.self.inside.rows c.self.inside.kept (bits_of c.self.inside.columns c.args.row.now) c.args.bit c.args.id c.reduce.new.trial =
    stands_words _ _ _ _ c.args.row.now c.args.bit c.args.id _ _ _ c.self.invariant.echelon c.self.invariant.trial c.start.ensures reduced in
    let places_is : (with_items c.self.inside.row_of c.keep.new.row_of).items ≡ slice_set c.self.inside.row_of.items c.in-Some.column (Some c.self.inside.kept) =
    with_items_is c.self.inside.row_of c.keep.new.row_of (search rules)
    ∙ c.keep.ensures.row_of ∙ ap (λ (places : List (Option ℕ)). slice_set places c.in-Some.column (Some c.self.inside.kept)) c.deref_mut.ensures.value in
    let more : IsEchelon c.self.inside.columns (slice_set c.self.inside.rows c.self.inside.kept (with_own c.self.inside.kept c.reduce.new.trial))
    (slice_set c.self.inside.row_of.items c.in-Some.column (Some c.self.inside.kept)) (c.self.inside.kept + 1) =
    echelon_more _ _ _ _ _ c.reduce.new.trial c.self.invariant.echelon stood.wide stood.later new in
    record {
      echelon = rw (c.keep.ensures.rows, places_is) more;
      trial = rw c.keep.ensures.trial (own_wide c.self.inside.columns c.self.inside.kept c.reduce.new.trial stood.wide);
      zero = λ is. absurd cc;
    }

pub returns-in-Some-clause-kept : goal.returns-in-Some-clause-kept
returns-in-Some-clause-kept c =
    let new : IsNew c.self.inside.row_of.items c.reduce.new.trial c.in-Some.column = rw c.deref.ensures.value at c.in-Some.ensures.end in
    let reduced : IsReduced c.self.inside.rows c.self.inside.row_of.items c.start.new.self c.reduce.new.trial = rw c.deref.ensures.value at c.in-Some.ensures.reduced in
    let size : length (bits_of c.self.inside.columns c.args.row.now) ≡ c.self.inside.columns = length-bits_of c.self.inside.columns c.args.row.now in
    let stood : Stands c.self.inside.columns c.self.inside.rows c.self.inside.kept (bits_of c.self.inside.columns c.args.row.now) c.args.bit c.args.id c.reduce.new.trial =
    stands_words _ _ _ _ c.args.row.now c.args.bit c.args.id _ _ _ c.self.invariant.echelon c.self.invariant.trial c.start.ensures reduced in
    rw (← c.self.view_is) (told_kept _ _ _ _ _ (bits_of c.self.inside.columns c.args.row.now) c.args.bit c.args.id _ c.self.invariant.echelon stood new).kept_is

pub returns-in-Some-clause-implied : goal.returns-in-Some-clause-implied
returns-in-Some-clause-implied c =
    let new : IsNew c.self.inside.row_of.items c.reduce.new.trial c.in-Some.column = rw c.deref.ensures.value at c.in-Some.ensures.end in
    let reduced : IsReduced c.self.inside.rows c.self.inside.row_of.items c.start.new.self c.reduce.new.trial = rw c.deref.ensures.value at c.in-Some.ensures.reduced in
    let size : length (bits_of c.self.inside.columns c.args.row.now) ≡ c.self.inside.columns = length-bits_of c.self.inside.columns c.args.row.now in
    let stood : Stands c.self.inside.columns c.self.inside.rows c.self.inside.kept (bits_of c.self.inside.columns c.args.row.now) c.args.bit c.args.id c.reduce.new.trial =
    stands_words _ _ _ _ c.args.row.now c.args.bit c.args.id _ _ _ c.self.invariant.echelon c.self.invariant.trial c.start.ensures reduced in
    rw (← c.self.view_is) (told_kept _ _ _ _ _ (bits_of c.self.inside.columns c.args.row.now) c.args.bit c.args.id _ c.self.invariant.echelon stood new).implied_is

pub returns-in-Some-clause-conflict : goal.returns-in-Some-clause-conflict
returns-in-Some-clause-conflict c =
    let new : IsNew c.self.inside.row_of.items c.reduce.new.trial c.in-Some.column = rw c.deref.ensures.value at c.in-Some.ensures.end in
    let reduced : IsReduced c.self.inside.rows c.self.inside.row_of.items c.start.new.self c.reduce.new.trial = rw c.deref.ensures.value at c.in-Some.ensures.reduced in
    let size : length (bits_of c.self.inside.columns c.args.row.now) ≡ c.self.inside.columns = length-bits_of c.self.inside.columns c.args.row.now in
    let stood : Stands c.self.inside.columns c.self.inside.rows c.self.inside.kept (bits_of c.self.inside.columns c.args.row.now) c.args.bit c.args.id c.reduce.new.trial =
    stands_words _ _ _ _ c.args.row.now c.args.bit c.args.id _ _ _ c.self.invariant.echelon c.self.invariant.trial c.start.ensures reduced in
    rw (← c.self.view_is) (told_kept _ _ _ _ _ (bits_of c.self.inside.columns c.args.row.now) c.args.bit c.args.id _ c.self.invariant.echelon stood new).conflict_is

pub returns-in-Some-clause-after : goal.returns-in-Some-clause-after
returns-in-Some-clause-after c =
    let new : IsNew c.self.inside.row_of.items c.reduce.new.trial c.in-Some.column = rw c.deref.ensures.value at c.in-Some.ensures.end in
    let reduced : IsReduced c.self.inside.rows c.self.inside.row_of.items c.start.new.self c.reduce.new.trial = rw c.deref.ensures.value at c.in-Some.ensures.reduced in
    let size : length (bits_of c.self.inside.columns c.args.row.now) ≡ c.self.inside.columns = length-bits_of c.self.inside.columns c.args.row.now in
    let stood : Stands c.self.inside.columns c.self.inside.rows c.self.inside.kept (bits_of c.self.inside.columns c.args.row.now) c.args.bit c.args.id c.reduce.new.trial =
    stands_words _ _ _ _ c.args.row.now c.args.bit c.args.id _ _ _ c.self.invariant.echelon c.self.invariant.trial c.start.ensures reduced in
    rw (← c.self.view_is, c.keep.ensures.rows) (λ t. record {
      columns = c.self.inside.columns;
      kept = kept_after _ _ _ _ _ (bits_of c.self.inside.columns c.args.row.now) c.args.bit c.args.id _ c.self.invariant.echelon size stood new t;
      refused = None;
    })

pub returns-after-self-clause-kept : goal.returns-after-self-clause-kept
returns-after-self-clause-kept c =
    let reduced : IsReduced c.self.inside.rows c.self.inside.row_of.items c.start.new.self c.reduce.new.trial = rw c.deref.ensures.value at c.in-None.ensures.reduced in
    let size : length (bits_of c.self.inside.columns c.args.row.now) ≡ c.self.inside.columns = length-bits_of c.self.inside.columns c.args.row.now in
    let stood : Stands c.self.inside.columns c.self.inside.rows c.self.inside.kept (bits_of c.self.inside.columns c.args.row.now) c.args.bit c.args.id c.reduce.new.trial =
    stands_words _ _ _ _ c.args.row.now c.args.bit c.args.id _ _ _ c.self.invariant.echelon c.self.invariant.trial c.start.ensures reduced in
    let clear : IsZero c.reduce.new.trial = c.in-None.ensures.end in
    elim c.if-self.branch [
      | then-self w ↦ rw (← c.self.view_is, w.result-is) (told_conflict _ _ _ _ (bits_of c.self.inside.columns c.args.row.now) c.args.bit c.args.id _ c.self.invariant.echelon stood clear w.if-self.true).kept_is
      | else-self w ↦ rw (← c.self.view_is, w.result-is) (told_implied _ _ _ _ (bits_of c.self.inside.columns c.args.row.now) c.args.bit c.args.id _ c.self.invariant.echelon stood clear w.if-self.false).kept_is
    ]

pub returns-after-self-clause-implied : goal.returns-after-self-clause-implied
returns-after-self-clause-implied c =
    let reduced : IsReduced c.self.inside.rows c.self.inside.row_of.items c.start.new.self c.reduce.new.trial = rw c.deref.ensures.value at c.in-None.ensures.reduced in
    let size : length (bits_of c.self.inside.columns c.args.row.now) ≡ c.self.inside.columns = length-bits_of c.self.inside.columns c.args.row.now in
    let stood : Stands c.self.inside.columns c.self.inside.rows c.self.inside.kept (bits_of c.self.inside.columns c.args.row.now) c.args.bit c.args.id c.reduce.new.trial =
    stands_words _ _ _ _ c.args.row.now c.args.bit c.args.id _ _ _ c.self.invariant.echelon c.self.invariant.trial c.start.ensures reduced in
    let clear : IsZero c.reduce.new.trial = c.in-None.ensures.end in
    elim c.if-self.branch [
      | then-self w ↦ rw (← c.self.view_is, w.result-is) (told_conflict _ _ _ _ (bits_of c.self.inside.columns c.args.row.now) c.args.bit c.args.id _ c.self.invariant.echelon stood clear w.if-self.true).implied_is
      | else-self w ↦ rw (← c.self.view_is, w.result-is) (told_implied _ _ _ _ (bits_of c.self.inside.columns c.args.row.now) c.args.bit c.args.id _ c.self.invariant.echelon stood clear w.if-self.false).implied_is
    ]

pub returns-after-self-clause-conflict : goal.returns-after-self-clause-conflict
returns-after-self-clause-conflict c =
    let reduced : IsReduced c.self.inside.rows c.self.inside.row_of.items c.start.new.self c.reduce.new.trial = rw c.deref.ensures.value at c.in-None.ensures.reduced in
    let size : length (bits_of c.self.inside.columns c.args.row.now) ≡ c.self.inside.columns = length-bits_of c.self.inside.columns c.args.row.now in
    let stood : Stands c.self.inside.columns c.self.inside.rows c.self.inside.kept (bits_of c.self.inside.columns c.args.row.now) c.args.bit c.args.id c.reduce.new.trial =
    stands_words _ _ _ _ c.args.row.now c.args.bit c.args.id _ _ _ c.self.invariant.echelon c.self.invariant.trial c.start.ensures reduced in
    let clear : IsZero c.reduce.new.trial = c.in-None.ensures.end in
    elim c.if-self.branch [
      | then-self w ↦ rw (← c.self.view_is, w.result-is) (told_conflict _ _ _ _ (bits_of c.self.inside.columns c.args.row.now) c.args.bit c.args.id _ c.self.invariant.echelon stood clear w.if-self.true).conflict_is
      | else-self w ↦ rw (← c.self.view_is, w.result-is) (told_implied _ _ _ _ (bits_of c.self.inside.columns c.args.row.now) c.args.bit c.args.id _ c.self.invariant.echelon stood clear w.if-self.false).conflict_is
    ]

pub returns-after-self-clause-after : goal.returns-after-self-clause-after
returns-after-self-clause-after c =
    let reduced : IsReduced c.self.inside.rows c.self.inside.row_of.items c.start.new.self c.reduce.new.trial = rw c.deref.ensures.value at c.in-None.ensures.reduced in
    let size : length (bits_of c.self.inside.columns c.args.row.now) ≡ c.self.inside.columns = length-bits_of c.self.inside.columns c.args.row.now in
    let stood : Stands c.self.inside.columns c.self.inside.rows c.self.inside.kept (bits_of c.self.inside.columns c.args.row.now) c.args.bit c.args.id c.reduce.new.trial =
    stands_words _ _ _ _ c.args.row.now c.args.bit c.args.id _ _ _ c.self.invariant.echelon c.self.invariant.trial c.start.ensures reduced in
    let own : restored c.self.inside.columns (kept_to c.self.inside.columns c.self.inside.rows c.self.inside.kept) c.reduce.new.trial ≡ record { row = (bits_of c.self.inside.columns c.args.row.now); bit = c.args.bit; id = c.args.id } =
    restored_is _ _ c.reduce.new.trial (bits_of c.self.inside.columns c.args.row.now) c.args.bit c.args.id size stood.means stood.id_is in
    elim c.if-self.branch [
      | then-self w ↦ rw (← c.self.view_is, w.result-is) (λ t. record { columns = c.self.inside.columns; kept = kept_to c.self.inside.columns c.self.inside.rows c.self.inside.kept; refused = if w.if-self.true t then Some (own t) else None })
      | else-self w ↦ rw (← c.self.view_is, w.result-is) (λ t. record { columns = c.self.inside.columns; kept = kept_to c.self.inside.columns c.self.inside.rows c.self.inside.kept; refused = if w.if-self.false t then Some (own t) else None })
    ]
