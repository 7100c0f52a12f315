use Rattle.std.proofs.Common.{◌∙◌, ◌++◌, ap, sym, refl, subst, arith, length, flat_map, drop}
use Rattle.std.proofs.lemmas.List.{take_rest}
use Rattle.dft_netlist_text.specs.NetlistText.{StandsFor}
use Rattle.dft_base.specs.Lexing.{Text}
use Rattle.dft_verilog_out.specs.Written.{port_texts, port_line, wire_line}
use Rattle.dft_verilog_out.proofs.FormLemmas.{ports-fit, texts-are, module_line-is, wires-are, assembled, joins-stand, instances-stand}
use Rattle.dft_verilog_out.proofs.RoundTrip.{written_stands}
use Rattle.dft_verilog_out.proofs.writer.write.Goals as goal

pub add_other_texts-requires : goal.add_other_texts-requires
add_other_texts-requires c =
    let fits = ports-fit c.args.design.now c.ports.ensures.sound in
    omega (arith, fits, ap length (c.in_ok-nets.ensures ∙ ap (flat_map port_texts) c.ports.ensures.ports))

pub add_joins-requires : goal.add_joins-requires
add_joins-requires c =
    joins-stand c.args.design.now _ _ c.joins.ensures.sound
    (c.deref-2.ensures.value ∙ texts-are c.args.design.now _ _ (c.in_ok-nets.ensures ∙ ap (flat_map port_texts) c.ports.ensures.ports) c.in_ok-add_other_texts.ensures) c.joins.ensures.joins

pub add_instances-requires : goal.add_instances-requires
add_instances-requires c =
    instances-stand c.args.design.now _ _ _ c.joins.ensures.sound (c.cells.ensures.cells ∙ c.library.ensures.library)
    (c.deref-3.ensures.value ∙ texts-are c.args.design.now _ _ (c.in_ok-nets.ensures ∙ ap (flat_map port_texts) c.ports.ensures.ports) c.in_ok-add_other_texts.ensures) c.instances.ensures.instances

pub returns : goal.returns
returns c =
    let n = c.args.design.now in
    let first = c.in_ok-nets.ensures ∙ ap (flat_map port_texts) c.ports.ensures.ports in
    let all = texts-are n _ _ first c.in_ok-add_other_texts.ensures in
    let heading_is = module_line-is n _ _ _ _ c.new-out.ensures.items c.module.ensures.name c.ports-2.ensures.ports c.in_ok-add_heading.ensures in
    let cells = c.cells.ensures.cells ∙ c.library.ensures.library in
    let form = assembled n _ _ _ _ _ _ _ _ all (wires-are n _ _ c.len-first.result first (omega arith) all) heading_is
    (c.in_ok-add_ports.ensures ∙ ap (λ ports. c.add_heading.new.out.items ++ flat_map port_line ports) c.ports-3.ensures.ports)
    (c.in_ok-add_wires.ensures ∙ ap (λ texts. c.add_ports.new.out.items ++ flat_map wire_line texts) (take_rest c.deref.result.now c.len-first.result ∙ ap (drop c.len-first.result) c.deref.ensures.value))
    (c.in_ok-add_joins.ensures ∙ rw (c.deref-2.ensures.value, c.joins.ensures.joins) refl)
    (c.in_ok-add_instances.ensures ∙ rw (cells, c.deref-3.ensures.value, c.instances.ensures.instances) refl)
    c.in_ok-extend_from_slice.ensures.items in
    let stands = written_stands n (record { sound = c.soundness.ensures.netlist; well = c.soundness.ensures.library; gates = c.requires }) c.soundness.ensures.single c.soundness.ensures.finished.orderable in
    record { form = form; reads = subst (λ (text : Text). StandsFor n.library text n) (sym form) stands }
