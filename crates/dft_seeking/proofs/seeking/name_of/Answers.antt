use Rattle.std.proofs.Common.{◌∙◌, ◌++◌, List, ℕ, ap, arith, subst, sym}
use Rattle.std.specs.Fmt.{decimal}
use Rattle.dft_base.specs.Name.{IsName}
use Rattle.dft_seeking.proofs.SearchLemmas.{is_cube_name}
use Rattle.dft_seeking.proofs.seeking.name_of.Goals as goal

pub from_slice-requires-2 : goal.from_slice-requires-2
from_slice-requires-2 c =
    let few = c.ranges.number.fits in
    subst IsName (sym (c.deref.ensures.value ∙ c.in_ok-add_number.ensures ∙ ap (λ (t : List ℕ). t ++ decimal c.args.number) c.in_ok-bytes.ensures.items)) (is_cube_name c.args.number (omega (arith, few)))
