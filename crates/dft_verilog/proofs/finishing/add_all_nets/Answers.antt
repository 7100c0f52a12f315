use Rattle.std.proofs.Common.{◌≡◌, ◌∙◌, List, Ok, length, ap, ap₂, sym, subst}
use Rattle.std.proofs.lemmas.List.{length-map}
use Rattle.std.proofs.lemmas.Result.{IfOk-weaker}
use Rattle.dft_base.specs.Lexing.{Text}
use Rattle.dft_base.specs.Ranges.{going_up}
use Rattle.dft_netlist.specs.Netlist.{Netlist}
use Rattle.dft_netlist.proofs.BitLemmas.{up_length}
use Rattle.dft_netlist_text.specs.Modules.{Draft, HeaderPort}
use Rattle.dft_netlist_text.specs.NetlistText.{Grown, and_grown, nets_of_ports, names_of_others, add_ports, add_nets}
use Rattle.dft_verilog.specs.FinalNets.{number_among, numbers_among, without_number}
use Rattle.dft_verilog.specs.Built.{Grows}
use Rattle.dft_verilog.proofs.BuiltLemmas.{all_nets, all_nets-by, finals-by, HasNetsOf-all, OnOk-grown}
use Rattle.dft_verilog.proofs.GrowLemmas.{IsGrown-same}
use Rattle.dft_verilog.proofs.finishing.add_all_nets.Goals as goal

pub add_others-requires-clause-count : goal.add_others-requires-clause-count
add_others-requires-clause-count c =
    let d : Draft = c.args.draft.now in
    let bits = nets_of_ports d.ports in
    let numbers : c.deref.result.now ≡ numbers_among bits (length d.nets) =
    c.deref.ensures.value ∙ c.in_ok-numbers.ensures ∙ ap₂ (λ (ps : List HeaderPort) n. numbers_among (nets_of_ports ps) n) c.ports.ensures.ports c.net_count.ensures.count in
    ap length c.nets.ensures.nets ∙ sym (ap length numbers ∙ length-map (going_up 0 (length d.nets)) (number_among bits) ∙ up_length 0 (length d.nets))

pub add_others-requires-clause-grown : goal.add_others-requires-clause-grown
add_others-requires-clause-grown c =
    let d : Draft = c.args.draft.now in
    let start : Netlist = c.args.builder.now in
    let mid : Netlist = c.add_ports.new.builder in
    let numbers : c.deref.result.now ≡ numbers_among (nets_of_ports d.ports) (length d.nets) =
    c.deref.ensures.value ∙ c.in_ok-numbers.ensures ∙ ap₂ (λ (ps : List HeaderPort) n. numbers_among (nets_of_ports ps) n) c.ports.ensures.ports c.net_count.ensures.count in
    let ports : add_ports d.ports start ≡ Ok mid = ap (λ (ps : List HeaderPort). add_ports ps start) (sym c.ports-2.ensures.ports) ∙ c.in_ok-add_ports.ensures in
    let others : all_nets d start ≡ add_nets (without_number c.nets.result.now c.deref.result.now) mid =
    all_nets-by d start mid c.deref.result.now ports numbers ∙ ap (λ (ws : List Text). add_nets (without_number ws c.deref.result.now) mid) (sym c.nets.ensures.nets) in
    IsGrown-same (add_nets (without_number c.nets.result.now c.deref.result.now) mid) (all_nets d start) (sym others) c.requires.grown

pub returns : goal.returns
returns c =
    let d : Draft = c.args.draft.now in
    let start : Netlist = c.args.builder.now in
    let mid : Netlist = c.add_ports.new.builder in
    let new : Netlist = c.add_others.new.builder in
    let numbers : c.deref.result.now ≡ numbers_among (nets_of_ports d.ports) (length d.nets) =
    c.deref.ensures.value ∙ c.in_ok-numbers.ensures ∙ ap₂ (λ (ps : List HeaderPort) n. numbers_among (nets_of_ports ps) n) c.ports.ensures.ports c.net_count.ensures.count in
    let ports : add_ports d.ports start ≡ Ok mid = ap (λ (ps : List HeaderPort). add_ports ps start) (sym c.ports-2.ensures.ports) ∙ c.in_ok-add_ports.ensures in
    let others : all_nets d start ≡ add_nets (without_number c.nets.result.now c.deref.result.now) mid =
    all_nets-by d start mid c.deref.result.now ports numbers ∙ ap (λ (ws : List Text). add_nets (without_number ws c.deref.result.now) mid) (sym c.nets.ensures.nets) in
    let grown : Grows (all_nets d start) c.add_others.result new = subst (λ (g : Grown). Grows g c.add_others.result new) (sym others) c.add_others.ensures.grown in
    record {
      grown = grown;
      finals = IfOk-weaker c.add_others.result _ _ (λ f e. finals-by d start mid c.deref.result.now f.items c.requires.none ports numbers e) c.add_others.ensures.finals;
      nets = OnOk-grown (all_nets d start) c.add_others.result new _ grown (λ e. HasNetsOf-all d start mid new c.requires.none ports (sym (ap (λ (g : Grown). and_grown g (add_nets (names_of_others d))) ports) ∙ e));
    }
