use Rattle.std.proofs.Common.{◌≡◌, ◌<◌, ◌^◌, arith}
use Rattle.dft_netlist.specs.Names.{bit_name}
use Rattle.dft_netlist.proofs.BitLemmas.{is_bit_name, regroup}
use Rattle.dft_netlist.proofs.bits.bit_name.Goals as goal

pub from_slice-requires-2 : goal.from_slice-requires-2
from_slice-requires-2 c =
    let small : c.args.index < 2 ^ 64 = omega arith in
    let whole : c.deref.result.now ≡ bit_name c.args.name.now c.args.index =
    rw (c.deref.ensures.value, c.in_ok-push-2.ensures.items, c.in_ok-extend_from_slice.ensures.items, c.as_bytes.ensures.value, c.in_ok-digits.ensures.ok, c.in_ok-push.ensures.items, c.in_ok-bytes.ensures.items, c.as_slice.ensures.bytes) (regroup c.args.name.now c.args.index) in
    rw whole (is_bit_name c.args.name.now c.args.index small c.as_slice.ensures.name)
