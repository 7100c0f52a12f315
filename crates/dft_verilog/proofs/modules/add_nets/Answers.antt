use Rattle.std.proofs.Common.{◌≡◌, ◌∙◌, List, Option, length, ap, ap₂, sym, subst, arith}
use Rattle.std.specs.List.{All}
use Rattle.std.proofs.lemmas.List.{length-map}
use Rattle.dft_base.specs.Lexing.{Text}
use Rattle.dft_base.specs.Ranges.{going_up}
use Rattle.dft_netlist.specs.declared.ids.NetId.{NetId}
use Rattle.dft_netlist.proofs.BitLemmas.{up_length}
use Rattle.dft_netlist_text.specs.Modules.{Draft, HeaderPort}
use Rattle.dft_netlist_text.specs.NetlistText.{nets_of_ports}
use Rattle.dft_modules.specs.Modules.{Module}
use Rattle.dft_verilog_draft.specs.Drafts.{IsDeclaredWithin}
use Rattle.dft_verilog.specs.FinalNets.{number_among, numbers_among, without_number, all_numbered}
use Rattle.dft_verilog.specs.SaidParts.{with_nets, with_ports}
use Rattle.dft_verilog.proofs.SaidPartLemmas.{nets_are, finals_are}
use Rattle.dft_verilog.proofs.modules.add_nets.Goals as goal

pub add_ports-requires-clause-none : goal.add_ports-requires-clause-none
add_ports-requires-clause-none c = ap (λ (m : Module). length m.nets) c.requires

pub add_ports-requires-clause-within : goal.add_ports-requires-clause-within
add_ports-requires-clause-within c =
    let d : Draft = c.args.draft.now in
    subst (λ (ps : List HeaderPort). All (λ (p : HeaderPort). IsDeclaredWithin (length c.nets-names.result.now) p.declared) ps) (sym c.ports-ports.ensures.ports)
    (subst (λ (ns : List Text). All (λ (p : HeaderPort). IsDeclaredWithin (length ns) p.declared) d.ports) (sym c.nets-names.ensures.nets) c.ports-ports.ensures.draft.ports)

pub all_numbers-requires : goal.all_numbers-requires
all_numbers-requires c =
    let d : Draft = c.args.draft.now in
    let bits = nets_of_ports c.ports-ports.result.now in
    let long : length c.deref.result.now ≡ c.net_count.result =
    ap length (c.deref.ensures.value ∙ c.in_ok-numbers.ensures) ∙ length-map (going_up 0 c.net_count.result) (number_among bits) ∙ up_length 0 c.net_count.result in
    let first : length c.nets.result.now ≡ length c.add_ports.new.made.nets = ap (λ (ns : List Text). length ns) c.nets.ensures in
    omega (arith, long, first, c.in_ok-add_ports.ensures.few, c.net_count.ensures.few)

pub add_others-requires : goal.add_others-requires
add_others-requires c =
    let bits = nets_of_ports c.ports-ports.result.now in
    let long : length c.deref-2.result.now ≡ c.net_count.result =
    ap length (c.deref-2.ensures.value ∙ c.in_ok-numbers.ensures) ∙ length-map (going_up 0 c.net_count.result) (number_among bits) ∙ up_length 0 c.net_count.result in
    ap (λ (ns : List Text). length ns) c.nets-names.ensures.nets ∙ sym c.net_count.ensures.count ∙ sym long

pub returns-clause-made : goal.returns-clause-made
returns-clause-made c =
    let d : Draft = c.args.draft.now in
    let numbers : List (Option NetId) = c.in_ok-numbers.numbers.items in
    let among : numbers ≡ numbers_among (nets_of_ports d.ports) (length d.nets) = c.in_ok-numbers.ensures ∙ ap₂ (λ (ps : List HeaderPort) n. numbers_among (nets_of_ports ps) n) c.ports-ports.ensures.ports c.net_count.ensures.count in
    nets_are d numbers c.args.made.now c.add_ports.new.made c.add_others.new.made c.requires among
    (c.in_ok-add_ports.ensures.made ∙ ap₂ (λ (ns : List Text) (ps : List HeaderPort). with_ports ns ps c.args.made.now) c.nets-names.ensures.nets c.ports-ports.ensures.ports)
    (c.in_ok-add_others.ensures ∙ ap₂ (λ (ws : List Text) (ns : List (Option NetId)). with_nets (without_number ws ns) c.add_ports.new.made) c.nets-names.ensures.nets c.deref-2.ensures.value)

pub returns-clause-finals : goal.returns-clause-finals
returns-clause-finals c =
    let d : Draft = c.args.draft.now in
    let numbers : List (Option NetId) = c.in_ok-numbers.numbers.items in
    let among : numbers ≡ numbers_among (nets_of_ports d.ports) (length d.nets) = c.in_ok-numbers.ensures ∙ ap₂ (λ (ps : List HeaderPort) n. numbers_among (nets_of_ports ps) n) c.ports-ports.ensures.ports c.net_count.ensures.count in
    finals_are d numbers c.in_ok-finals.finals.items c.args.made.now c.add_ports.new.made c.ports-ports.ensures.draft.ports c.requires among
    (c.in_ok-add_ports.ensures.made ∙ ap₂ (λ (ns : List Text) (ps : List HeaderPort). with_ports ns ps c.args.made.now) c.nets-names.ensures.nets c.ports-ports.ensures.ports)
    (c.in_ok-finals.ensures ∙ ap₂ (λ (names : List Text) (ns : List (Option NetId)). all_numbered (length names) ns) c.nets.ensures c.deref.ensures.value)
