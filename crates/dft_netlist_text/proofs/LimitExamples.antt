-- Where modules pass a limit, worked by hand.
use Rattle.std.proofs.Common.{replicate, ◌≡◌, ℕ, refl, codes, Option, Some, None, Ok, Err, []}
use Rattle.std.specs.Fmt as fmt
use Rattle.dft_base.specs.Words as words
use Rattle.dft_base.specs.Parser.{Checked}
use Rattle.dft_base.specs.Lexing.{place_after, next_place}
use Rattle.dft_base.specs.declared.dir.Dir.TheVariants as dir
use Rattle.dft_netlist_text.specs.declared.text.Cause.{Cause}
use Rattle.dft_netlist_text.specs.declared.text.Cause.TheVariants as cause
use Rattle.dft_netlist.specs.declared.error.Counted.TheVariants as counted
use Rattle.dft_netlist_text.specs.declared.text.Meaning.TheVariants as meaning
use Rattle.dft_netlist_text.specs.declared.text.Fault.{Fault}
use Rattle.dft_netlist_text.specs.Lexemes.{comment_rest, attribute_rest, blank_len, begins_blank, to_blank, word_kind, mark_kind, escaped, quote, directive, lexeme}
use Rattle.dft_netlist_text.specs.Steps.{kind_of, bytes, left, next, same_kind, sees, refusal, expect, after}
use Rattle.dft_netlist_text.specs.Modules.{Draft, empty_draft, with_name, announce, declare_new_port}
use Rattle.dft_netlist_text.specs.Expressions.{number, rest_of_range, range, range_if_any, digits, constant, followed, rest_of_select, selection, named_operand, constant_operand, operand, opening, closing, concatenations_from, expression}
use Rattle.dft_netlist_text.specs.Items.{declared_name, declared_names_from, declared_names, declaration, port_item, wire_item, right_side, net_assignment, net_assignments_from, net_assignments, assign_item, terminal, input_terminals_from, input_terminals, terminals, named_gate, unnamed_gate, one_gate, gates_from, gates, gate_item, connected_pin, pin_signal, pin_content, named_connection, named_connections_from, named_connections, connections, instance, instances_from, instances, cell_item, item, items_from, items}
use Rattle.dft_netlist_text.specs.NetlistText.{announced_name, announced_names_from, announced_names, declared_port, port_declaration_of, port_declaration, declared_ports_from, declared_ports, header_names, header, heading, module_end, end_of_text, module_text, module_of}

abbrev pub refused_by : Checked Fault Draft → Option Cause
refused_by (Ok d) = None
refused_by (Err f) = Some f.cause

-- a module with so many ports that have no name here, and with the name `taken`
abbrev pub crowded : ℕ → Draft
crowded ports = record (with_name (codes "taken") meaning.Bit (empty_draft [] [])) { ports = replicate ports (record { name = []; declared = None }) }

pub full_ports :
    (refused_by (announce 0 (codes "a") (crowded 32767)) ≡ None)
    × (refused_by (announce 0 (codes "a") (crowded 32768)) ≡ Some (cause.Full counted.Ports))
    × (refused_by (announce 0 (codes "taken") (crowded 32768)) ≡ Some (cause.Taken (codes "taken")))
    × (refused_by (declare_new_port 0 (codes "a") dir.Input None (crowded 32768)) ≡ Some (cause.Full counted.Ports))
    × (refused_by (declare_new_port 0 (codes "taken") dir.Input None (crowded 32768)) ≡ Some (cause.Taken (codes "taken")))
unfolding comment_rest attribute_rest blank_len begins_blank to_blank word_kind mark_kind escaped quote directive lexeme kind_of bytes left next same_kind sees refusal expect after number rest_of_range range range_if_any digits constant followed rest_of_select selection named_operand constant_operand operand opening closing concatenations_from expression declared_name declared_names_from declared_names declaration port_item wire_item right_side net_assignment net_assignments_from net_assignments assign_item terminal input_terminals_from input_terminals terminals named_gate unnamed_gate one_gate gates_from gates gate_item connected_pin pin_signal pin_content named_connection named_connections_from named_connections connections instance instances_from instances cell_item item items_from items announced_name announced_names_from announced_names declared_port port_declaration_of port_declaration declared_ports_from declared_ports header_names header heading module_end end_of_text module_text module_of place_after next_place words.reserved_words fmt.digits
full_ports = (refl, refl, refl, refl, refl)
