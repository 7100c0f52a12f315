-- A cell by its place.
use Rattle.std.proofs.Common.{refl, get_or, arith, inl, inr, ◌+◌}
use Rattle.std.proofs.lemmas.Option.{slice_get_within}
use Rattle.dft_expect.specs.Loaded.{all_cells}
use Rattle.dft_expect.proofs.CellNumbers.{place_of}
use Rattle.dft_expect.proofs.SettingLemmas.{numbered}
use Rattle.dft_expect.proofs.settings.cell_setting.Goals as goal

pub overflow_add-number : goal.overflow_add-number
overflow_add-number c =
    let chains = c.args.chains.now.chains in
    let at = numbered chains c.args.starts.now c.in-Some.at.chain c.in-Some.at.place _ c.args.instance c.requires.starts c.in-Some.ensures.stands (λ i. get_or c.args.starts.now (c.from.ensures i) 0 + c.from-in-Some.ensures i) in
    omega (arith, slice_get_within (all_cells chains) _ c.args.instance at, c.requires.small)

pub returns-in-Some : goal.returns-in-Some
returns-in-Some c =
    let chains = c.args.chains.now.chains in
    let at = numbered chains c.args.starts.now c.in-Some.at.chain c.in-Some.at.place _ c.args.instance c.requires.starts c.in-Some.ensures.stands (λ i. get_or c.args.starts.now (c.from.ensures i) 0 + c.from-in-Some.ensures i) in
    inl (_, refl, at)

pub returns-in-None : goal.returns-in-None
returns-in-None c = inr (refl, λ number at. (let p = place_of c.args.chains.now.chains number c.args.instance at in c.in-None.ensures.nowhere p.chain p.place p.at))
