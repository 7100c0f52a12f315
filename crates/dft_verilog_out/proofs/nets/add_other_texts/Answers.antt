use Rattle.std.proofs.Common.{◌∙◌, ◌∷◌, ap, sym, map, drop, ◌+◌}
use Rattle.dft_verilog_out.specs.Written.{name_text}
use Rattle.dft_verilog_out.proofs.FormLemmas.{map-drop_one, pushed}
use Rattle.dft_verilog_out.proofs.nets.add_other_texts.Goals as goal

pub loop-net-preserved : goal.loop-net-preserved
loop-net-preserved c =
    pushed c.loop-net.texts.items _ _ _ _ _ c.in_ok-push.ensures.items
    (map-drop_one name_text c.args.design.now.nets c.loop-net.net c.net_name.result.now c.net_name.ensures
    ∙ ap (λ t. t ∷ map name_text (drop (c.loop-net.net + 1) c.args.design.now.nets)) (sym c.in_ok-whole.ensures)) c.loop-net.invariant
