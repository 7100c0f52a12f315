use Rattle.std.proofs.Common.{◌≡◌, Option, None, ap, sym, ◌∙◌, option_and_then, option_map, inl, inr}
use Rattle.dft_netlist.specs.declared.ids.NetId.{NetId}
use Rattle.dft_netlist.specs.declared.instance.Signal.{Signal}
use Rattle.dft_scan_frame.proofs.OpenLemmas.{net_at, own_output_is}
use Rattle.dft_scan_frame.proofs.outputs.own_output.Goals as goal

pub returns-in-Net-clause-net : goal.returns-in-Net-clause-net
returns-in-Net-clause-net c =
    ap net_at (sym c.in-Net.is) ∙ ap (λ (o : Option Signal). option_and_then net_at o) c.in_ok-net.ensures.signal ∙ own_output_is c.args.design.now c.args.cell

pub returns-in_err-net-clause-net : goal.returns-in_err-net-clause-net
returns-in_err-net-clause-net c =
    ap (λ (o : Option NetId). option_map (λ (net : NetId). net.0) o) c.from_residual.ensures ∙ ap (λ (o : Option Signal). option_and_then net_at o) c.in_err-net.ensures.signal ∙ own_output_is c.args.design.now c.args.cell

pub returns-in-Constant : goal.returns-in-Constant
returns-in-Constant c =
    let none : None ≡ net_at c.in_ok-net.field-0 = elim c.in-Constant.is [ inl tied ↦ ap net_at (sym tied.1) | inr loose ↦ ap net_at (sym loose) ] in
    record { net = none ∙ ap (λ (o : Option Signal). option_and_then net_at o) c.in_ok-net.ensures.signal ∙ own_output_is c.args.design.now c.args.cell; live = tt }
