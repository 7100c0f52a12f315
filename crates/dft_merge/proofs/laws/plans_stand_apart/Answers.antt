use Rattle.std.proofs.Common.{◌∙◌, sym}
use Rattle.dft_stitch.proofs.OnceLemmas.{cells_once, cells_scanned}
use Rattle.dft_merge.proofs.laws.plans_stand_apart.Goals as goal

pub returns : goal.returns
returns c = λ n config range chain place other after cell one two.
    let scanned = cells_scanned n config chain place cell range one in
    let once = cells_once n config cell.0 scanned.domain scanned.falling range scanned.is in
    let first = once.only chain place one in
    let second = once.only other after two in
    (first.0 ∙ sym second.0, first.1 ∙ sym second.1)
