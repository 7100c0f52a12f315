use Rattle.std.proofs.Common.{◌∙◌, ◌++◌, ◌∷◌, ap, sym, arith, append-nil, map, drop, ◌+◌}
use Rattle.dft_netlist.specs.Names.{indices_of}
use Rattle.dft_netlist.proofs.BitLemmas.{indices_length}
use Rattle.dft_verilog_out.specs.Written.{bit_select_text}
use Rattle.dft_verilog_out.proofs.FormLemmas.{map-drop_one, map-drop_none, pushed}
use Rattle.dft_verilog_out.proofs.nets.add_bits.Goals as goal

pub index_at-requires : goal.index_at-requires
index_at-requires c = let len = indices_length c.args.range in omega (arith, len, c.abs_diff.ensures)

pub loop-place-preserved : goal.loop-place-preserved
loop-place-preserved c =
    pushed c.loop-place.texts.items _ _ _ _ _ c.in_ok-push.ensures.items
    (map-drop_one (bit_select_text c.args.name.now) (indices_of c.args.range) c.loop-place.place c.index_at.result c.index_at.ensures
    ∙ ap (λ t. t ∷ map (bit_select_text c.args.name.now) (drop (c.loop-place.place + 1) (indices_of c.args.range))) (sym c.in_ok-bit.ensures)) c.loop-place.invariant

pub returns : goal.returns
returns c =
    let len = indices_length c.args.range in
    sym (ap (λ r. c.loop-place.texts.items ++ r) (map-drop_none (bit_select_text c.args.name.now) (indices_of c.args.range) c.loop-place.place (omega (arith, len, c.abs_diff.ensures))) ∙ append-nil c.loop-place.texts.items) ∙ c.loop-place.invariant
