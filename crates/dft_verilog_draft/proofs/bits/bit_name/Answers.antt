use Rattle.std.proofs.Common.{◌≡◌, ◌++◌, ◌∷◌, [], decimal, sym, ◌∙◌, subst, arith}
use Rattle.dft_netlist.proofs.BitLemmas.{is_bit_name}
use Rattle.dft_base.specs.Name.{IsName}
use Rattle.dft_verilog_draft.proofs.BitNameLemmas.{bit_name-parts}
use Rattle.dft_verilog_draft.proofs.bits.bit_name.Goals as goal

pub made-requires : goal.made-requires
made-requires c =
    let parts : c.push-2.new.self.items ≡ ((c.args.word.now ++ 91 ∷ []) ++ decimal c.args.index) ++ 93 ∷ [] =
    cc (c.in_ok-push-2.ensures.items, c.in_ok-extend_from_slice.ensures.items, c.in_ok-push.ensures.items, c.in_ok-bytes.ensures.items, c.as_bytes.ensures.value, c.format.ensures.text) in
    subst IsName (sym (parts ∙ bit_name-parts c.args.word.now (decimal c.args.index))) (is_bit_name c.args.word.now c.args.index (omega (arith, c.ranges.index)) c.requires)
