-- The last row's column is freed.
use Rattle.std.proofs.Common.{◌≡◌, ◌+◌, ◌-◌, length, arith, subst}
use Rattle.dft_gf2.specs.Rows.{IsEchelon}
use Rattle.dft_gf2.proofs.Outcomes.{kept_fits, echelon_less, has_lead}
use Rattle.dft_gf2.proofs.system.free.Goals as goal

pub last-requires : goal.last-requires
last-requires c =
    let fits = kept_fits _ _ _ _ c.loop-place.invariant.echelon in
    omega (arith, c.loop-place.invariant.echelon.wide.0, c.loop-place-test.true)

pub bounds-row_of-column : goal.bounds-row_of-column
bounds-row_of-column c =
    let inside = c.in-Some.ensures.0 in
    omega (arith, c.loop-place.invariant.echelon.columns, c.loop-place.invariant.echelon.wide.0)

pub loop-place-preserved-in-Some : goal.loop-place-preserved-in-Some
loop-place-preserved-in-Some c =
    let next : c.loop-place.place ≡ c.loop-place.place - 1 + 1 = omega (arith, c.loop-place-test.true) in
    record {
      order = omega (arith, c.loop-place-test.true);
      echelon = echelon_less _ _ _ (c.loop-place.place - 1) c.in-Some.column (subst (IsEchelon (length c.args.row_of.now) c.args.rows.now c.loop-place.row_of) next c.loop-place.invariant.echelon) c.in-Some.ensures.1;
    }

pub loop-place-preserved : goal.loop-place-preserved
loop-place-preserved c = absurd (has_lead _ _ _ _ (c.loop-place.place - 1) c.loop-place.invariant.echelon (omega (arith, c.loop-place-test.true)) c.in_default.ensures)

pub returns : goal.returns
returns c =
    let end : c.loop-place.place ≡ c.args.first = omega (arith, c.loop-place-test.false, c.loop-place.invariant.order) in
    record { echelon = subst (IsEchelon (length c.args.row_of.now) c.args.rows.now c.loop-place.row_of) end c.loop-place.invariant.echelon }
