-- One pattern more.
use Rattle.std.proofs.Common.{◌+◌, ◌≤◌, ◌∙◌, ℕ, length, ap, refl, arith}
use Rattle.std.specs.Prelude.{count_by}
use Rattle.dft_encode.specs.Counts.{is_set}
use Rattle.dft_encode.proofs.FillingLemmas.{count_is, fits_list, last_fits, one_found}
use Rattle.dft_encode.proofs.filling.step.Goals as goal

pub add-requires-clause-few : goal.add-requires-clause-few
add-requires-clause-few c =
    omega (arith, count_is c.args.finder.now c.args.number c.args.filled.now c.args.list.now c.requires.before c.requires.number, c.requires.number, c.requires.finder.few)

pub add-requires-clause-last : goal.add-requires-clause-last
add-requires-clause-last c =
    let f = c.args.finder.now in
    last_fits c.args.list.now.config f.loads.now.config c.args.list.now.plan f.loads.now.plan c.args.filled.now.last c.requires.before.config c.requires.before.plan c.requires.before.fits

pub add-requires-clause-found : goal.add-requires-clause-found
add-requires-clause-found c =
    let f = c.args.finder.now in
    fits_list c.args.list.now.config f.loads.now.config c.args.list.now.plan f.loads.now.plan c.in_ok-found.found c.requires.before.config c.requires.before.plan c.in_ok-found.ensures.fits

pub returns : goal.returns
returns c =
    let f = c.args.finder.now in
    let found = c.in_ok-found.found in
    let few : count_by is_set found.masks ≤ 1024 =
    omega (arith, c.masked.ensures.value, c.masked.ensures.few, ap length c.as_slice.ensures, ap (count_by is_set) c.as_slice.ensures, c.in_ok-found.ensures.fits.masks, c.requires.finder.count, c.requires.finder.range.chains.1) in
    one_found f c.args.number c.args.filled.now _ c.args.list.now c.add.new.list found c.requires.before c.in_ok-found.ensures.merged c.in_ok-found.ensures.found c.in_ok-found.ensures.fits few
    c.in_ok-add.ensures.same c.in_ok-add.ensures.added refl (ap (λ (k : ℕ). c.args.filled.now.masked + k) (c.masked.ensures.value ∙ ap (count_by is_set) c.as_slice.ensures))
