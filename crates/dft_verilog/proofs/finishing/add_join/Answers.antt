use Rattle.std.proofs.Common.{◌≡◌, ◌∙◌, [], ◌∷◌, ◌++◌, ap₂}
use Rattle.dft_netlist.specs.declared.ids.NetId.{NetId}
use Rattle.dft_netlist.specs.declared.instance.Signal.{Signal}
use Rattle.dft_netlist.specs.declared.instance.Join.{Join}
use Rattle.dft_netlist.specs.Netlist.{Netlist}
use Rattle.dft_netlist_text.specs.Modules.{Draft}
use Rattle.dft_netlist_text.specs.NetlistText.{net_order, final_net, final_signal}
use Rattle.dft_verilog_draft.proofs.FreeLemmas.{OnOk-then}
use Rattle.dft_verilog.proofs.StandingLemmas.{net-final, signal-final, join-stands}
use Rattle.dft_verilog.proofs.finishing.add_join.Goals as goal

pub join-requires : goal.join-requires
join-requires c =
    let d : Draft = c.args.draft.now in
    let target : c.final_net-target.result ≡ final_net (net_order d) c.args.join.target = c.final_net-target.ensures ∙ net-final d c.args.finals.now c.requires.finals c.args.join.target c.requires.fits.target_live in
    let source : c.final_signal-source.result ≡ final_signal (net_order d) c.args.join.source = c.final_signal-source.ensures ∙ signal-final d c.args.finals.now c.requires.finals c.args.join.source c.requires.fits.source_live in
    rw (target, source) (join-stands d c.args.finals.now c.args.builder.now c.args.join c.requires.nets c.requires.finals c.requires.fits)

pub returns : goal.returns
returns c =
    let d : Draft = c.args.draft.now in
    let n : Netlist = c.args.builder.now in
    let target : c.final_net-target.result ≡ final_net (net_order d) c.args.join.target = c.final_net-target.ensures ∙ net-final d c.args.finals.now c.requires.finals c.args.join.target c.requires.fits.target_live in
    let source : c.final_signal-source.result ≡ final_signal (net_order d) c.args.join.source = c.final_signal-source.ensures ∙ signal-final d c.args.finals.now c.requires.finals c.args.join.source c.requires.fits.source_live in
    OnOk-then c.join.result _ _ (λ e. e ∙ ap₂ (λ (t : NetId) (s : Signal). let j : Join = record { target = t; source = s } in record n { joins = n.joins ++ j ∷ [] }) target source) c.join.ensures.ok
