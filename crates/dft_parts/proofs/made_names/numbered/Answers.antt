use Rattle.std.proofs.Common.{◌≡◌, sym, subst, arith}
use Rattle.dft_base.specs.Name.{IsName}
use Rattle.dft_parts.specs.MadeNames as spec
use Rattle.dft_parts.proofs.NameBytes.{is_numbered}
use Rattle.dft_parts.proofs.made_names.numbered.Goals as goal

pub from_slice-requires-2 : goal.from_slice-requires-2
from_slice-requires-2 c =
    let is : c.deref.result.now ≡ spec.numbered c.args.name.now c.args.number =
    cc (c.deref.ensures.value, c.in_ok-extend_from_slice.ensures.items, c.in_ok-bytes.ensures.items, c.as_bytes.ensures.value, c.format.ensures.text) in
    subst IsName (sym is) (is_numbered c.args.name.now c.args.number (omega (arith, c.ranges.number)) c.requires)
